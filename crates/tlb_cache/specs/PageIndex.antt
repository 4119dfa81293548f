-- What an index is of.
use Rattle.std.specs.Prelude.{ℕ, List, length}
use Rattle.tlb_cache.specs.Chains.{AreChains, hash_at as hash_in}
use Rattle.tlb_cache.specs.declared.page_index.PageIndex.{PageIndex}

-- the index has the entries of these pages, the oldest first
abbrev pub Indexes : PageIndex → List ℕ → Type 0
Indexes index pages = AreChains index.newest.items index.older.items index.oldest pages

-- the hash of the page with an age
abbrev pub hash_at : PageIndex → List ℕ → ℕ → ℕ
hash_at index pages age = hash_in (length index.newest.items) pages age
