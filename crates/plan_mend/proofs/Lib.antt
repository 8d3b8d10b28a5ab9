mod Copying
mod Filling
