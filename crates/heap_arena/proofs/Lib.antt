mod ArenaLists
mod GrantLemmas
mod Runs
mod TraitClauses
