-- The kinds of scopes, at the path of their functions here. Assumes nothing: these are definitions.
pub use Rattle.words_scopes.specs.Kinds.{kind_of}
