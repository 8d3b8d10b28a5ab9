mod Places
mod Boards
