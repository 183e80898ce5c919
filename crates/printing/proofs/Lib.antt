-- What the proofs of several functions use.
mod Pages
mod Escapes
mod Once
