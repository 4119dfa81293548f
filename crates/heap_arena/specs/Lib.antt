pub mod Arena
pub mod ArenaLaws
pub mod Arenas
pub mod ArenasLaws
pub mod Grants
