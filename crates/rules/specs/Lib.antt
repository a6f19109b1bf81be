pub mod Syntax
pub mod Quantifiers
pub mod Derivations
pub mod Tries
pub mod Laws
pub mod Statements
pub mod Codes
pub mod Names
pub mod Meaning
pub mod Follows
pub mod Faults
-- That the two rules keep the laws, and what this rests on. A law of a trait is proved where an implementation names its proof, so these stand
-- here; a reader need not believe them.
pub mod LawsLemmas
pub mod Transitive
pub mod Renaming
pub mod Bridge
pub mod Regular
pub mod Variables
pub mod Narrow
pub mod Scopes
pub mod Weaken
pub mod Morphism
