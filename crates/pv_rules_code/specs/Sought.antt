-- What is looked for at the parts of a block. The modules below have one kind of part each.
pub mod Aim
pub mod Ask
pub mod Count
pub mod Pass
pub mod Pick
pub mod Site
pub mod Stride
