mod Places
mod Fresh
