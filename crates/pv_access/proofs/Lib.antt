mod Pushing
mod Steps
mod AreaValues
mod ElementLaws
mod Accessing
mod Choosing
