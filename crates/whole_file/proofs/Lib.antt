mod Appending
mod Counting
mod Joining
mod Renaming
