-- The lemmas of `show`.
mod Pieces
