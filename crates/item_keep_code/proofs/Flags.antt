-- Truth values as numbers, for crates above. Assumes nothing.
pub use Rattle.item_words_code.proofs.Flags.{flagged, at-most-one}
