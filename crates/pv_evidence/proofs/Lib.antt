mod Writable
mod Tellings
mod Ends
