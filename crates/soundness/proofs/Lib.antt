mod Clear
mod Places
mod Sound
mod Table
