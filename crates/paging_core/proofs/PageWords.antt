-- The bits of an entry that maps a page, or a large page.
use Rattle.std.proofs.Common.{◌≡◌, ℕ, ◌+◌, ◌*◌, ◌/◌, ◌%◌, ◌^◌, ◌<◌, Bool, true, false, not, cond, refl, arith}
use Rattle.paging_core.specs.Entry.{has_bit, frame_of, page_entry, large_entry}
use Rattle.paging_core.specs.declared.page_table.PageBits.{PageBits}

pub record IsPageWord (word frame : ℕ) (rights : PageBits) (large : Bool) : Type 0 where
  pub names : frame_of word ≡ frame
  pub present : has_bit word 0 ≡ true
  pub writable : has_bit word 1 ≡ rights.write
  pub usable : has_bit word 2 ≡ rights.user
  pub through : has_bit word 3 ≡ rights.through
  pub uncached : has_bit word 4 ≡ rights.uncached
  pub accessed : has_bit word 5 ≡ true
  pub dirty : has_bit word 6 ≡ true
  pub bit_7 : has_bit word 7 ≡ large
  pub global : has_bit word 8 ≡ rights.global
  pub executable : has_bit word 63 ≡ not rights.fetch
  pub low : word / 2 ^ 9 % 2 ^ 3 ≡ 0
  pub high : word / 2 ^ 52 % 2 ^ 11 ≡ 0

-- a bit as a number
abbrev number : Bool → ℕ
number b = cond b 1 0

small : (b : Bool) → number b < 2
small true = omega arith
small false = omega arith

-- the bit of a word that is this number
reads : (word k : ℕ) (b : Bool) → word / 2 ^ k % 2 ≡ number b → has_bit word k ≡ b
reads word k true e = rw e refl
reads word k false e = rw e refl

-- a bit with its weight
weighs : (b : Bool) (weight : ℕ) → cond b weight 0 ≡ number b * weight
weighs true weight = omega arith
weighs false weight = omega arith

-- no-execute is set where fetch is denied
denied : (fetch : Bool) → cond {A = ℕ} fetch 0 (2 ^ 63) ≡ number (not fetch) * 2 ^ 63
denied true = refl
denied false = refl

module _ (word n : ℕ) (rights : PageBits) (large : Bool)
    (lt : n < 2 ^ 40)
    (is : word ≡ n * 2 ^ 12 + 97 + number rights.write * 2 + number rights.user * 4 + number rights.through * 8 + number rights.uncached * 16
    + number large * 128 + number rights.global * 256 + number (not rights.fetch) * 2 ^ 63) where
  by_bits : IsPageWord word n rights large
  by_bits =
      let w = small rights.write in
      let u = small rights.user in
      let t = small rights.through in
      let c = small rights.uncached in
      let l = small large in
      let g = small rights.global in
      let x = small (not rights.fetch) in
      record {
        names = omega arith;
        present = reads word 0 true (omega arith);
        writable = reads word 1 rights.write (omega arith);
        usable = reads word 2 rights.user (omega arith);
        through = reads word 3 rights.through (omega arith);
        uncached = reads word 4 rights.uncached (omega arith);
        accessed = reads word 5 true (omega arith);
        dirty = reads word 6 true (omega arith);
        bit_7 = reads word 7 large (omega arith);
        global = reads word 8 rights.global (omega arith);
        executable = reads word 63 (not rights.fetch) (omega arith);
        low = omega arith;
        high = omega arith;
      }

pub page_bits : (n : ℕ) → n < 2 ^ 40 → (rights : PageBits) → IsPageWord (page_entry n rights) n rights false
page_bits n lt rights = by_bits (page_entry n rights) n rights false lt
    (rw (weighs rights.write 2, weighs rights.user 4, weighs rights.through 8, weighs rights.uncached 16, weighs rights.global 256, denied rights.fetch) (omega arith))

pub large_bits : (n : ℕ) → n < 2 ^ 40 → (rights : PageBits) → IsPageWord (large_entry n rights) n rights true
large_bits n lt rights = by_bits (large_entry n rights) n rights true lt
    (rw (weighs rights.write 2, weighs rights.user 4, weighs rights.through 8, weighs rights.uncached 16, weighs rights.global 256, denied rights.fetch) (omega arith))
