pub mod ChainText
pub mod CertificateText
pub mod Reading
