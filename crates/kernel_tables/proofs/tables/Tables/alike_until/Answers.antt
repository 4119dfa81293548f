use Rattle.std.proofs.Common.{◌≡◌, ◌+◌, ◌-◌, ◌*◌, ◌%◌, ◌^◌, ◌<◌, ◌≤◌, ℕ, zero, suc, refl, sym, arith}
use Rattle.kernel_tables.proofs.RangeTests.{alike, alike_end, few_missing}
use Rattle.kernel_tables.proofs.tables.Tables.alike_until.Goals as goal

block : (missing : ℕ) → missing ≤ 3 → 1 * 2 ^ (9 * missing) % 18446744073709551616 ≡ 2 ^ (9 * missing)
block zero le = refl
block (suc zero) le = refl
block (suc (suc zero)) le = refl
block (suc (suc (suc zero))) le = refl
block (suc (suc (suc (suc n)))) le = absurd (omega arith)

-- it ends after the page, and not far from it
block_end : (page missing : ℕ) → missing ≤ 3 →
    (0 < 1 * 2 ^ (9 * missing) % 18446744073709551616)
    × (page < page - page % (1 * 2 ^ (9 * missing) % 18446744073709551616) + 1 * 2 ^ (9 * missing) % 18446744073709551616)
    × (page - page % (1 * 2 ^ (9 * missing) % 18446744073709551616) + 1 * 2 ^ (9 * missing) % 18446744073709551616 ≤ page + 2 ^ 27)
block_end page zero le = (omega arith, omega arith, omega arith)
block_end page (suc zero) le = (omega arith, omega arith, omega arith)
block_end page (suc (suc zero)) le = (omega arith, omega arith, omega arith)
block_end page (suc (suc (suc zero))) le = (omega arith, omega arith, omega arith)
block_end page (suc (suc (suc (suc n)))) le = absurd (omega arith)

pub overflow_mul-block : goal.overflow_mul-block
overflow_mul-block c = let f = few_missing c.args.self.now.words c.args.self.now.root c.args.page c.args.missing c.requires.missing in omega (arith, f)

pub overflow_shl-block : goal.overflow_shl-block
overflow_shl-block c = let f = few_missing c.args.self.now.words c.args.self.now.root c.args.page c.args.missing c.requires.missing in omega (arith, f)

pub nonzero_rem-result : goal.nonzero_rem-result
nonzero_rem-result c =
    let b = (block_end c.args.page c.args.missing (few_missing c.args.self.now.words c.args.self.now.root c.args.page
    c.args.missing c.requires.missing)).0 in omega (arith, b)

pub returns-clause-more : goal.returns-clause-more
returns-clause-more c =
    rw c.number-number.ensures.value
    (block_end c.args.page c.args.missing (few_missing c.args.self.now.words c.args.self.now.root c.args.page c.args.missing c.requires.missing)).1

pub returns-clause-bounded : goal.returns-clause-bounded
returns-clause-bounded c =
    rw c.number-number.ensures.value
    (block_end c.args.page c.args.missing (few_missing c.args.self.now.words c.args.self.now.root c.args.page c.args.missing c.requires.missing)).2

pub returns-clause-unmapped : goal.returns-clause-unmapped
returns-clause-unmapped c = λ none other lo hi.
    (alike c.args.self.now.words c.args.self.now.root c.args.page other c.args.missing (1 * 2 ^ (9 * c.args.missing) % 18446744073709551616)
    (sym c.requires.missing) (block c.args.missing (few_missing c.args.self.now.words c.args.self.now.root c.args.page
    c.args.missing c.requires.missing)) lo (rw c.number-number.ensures.value at hi)).0 none

pub returns-clause-no_table : goal.returns-clause-no_table
returns-clause-no_table c = λ none. (
  rw c.number-number.ensures.value
      (alike_end c.args.self.now.words c.args.self.now.root c.args.page c.args.missing (1 * 2 ^ (9 * c.args.missing) % 18446744073709551616)
      (sym c.requires.missing) (block c.args.missing (few_missing c.args.self.now.words c.args.self.now.root c.args.page
      c.args.missing c.requires.missing)) none),
  λ other lo hi.
      (alike c.args.self.now.words c.args.self.now.root c.args.page other c.args.missing (1 * 2 ^ (9 * c.args.missing) % 18446744073709551616)
      (sym c.requires.missing) (block c.args.missing (few_missing c.args.self.now.words c.args.self.now.root c.args.page
      c.args.missing c.requires.missing)) lo (rw c.number-number.ensures.value at hi)).1 none,
)
