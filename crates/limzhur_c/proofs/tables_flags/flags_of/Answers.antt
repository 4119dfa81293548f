use Rattle.std.proofs.Common.{◌+◌, ◌*◌, ◌/◌, arith}
use Rattle.limzhur_c.proofs.Flags.{flag_small, flag_found}
use Rattle.limzhur_c.proofs.tables_flags.flags_of.Goals as goal

pub returns-clause-bits : goal.returns-clause-bits
returns-clause-bits c =
    let bits = c.args.bits in
    let write = flag_small bits.write c.from.result c.from.ensures in
    let user = flag_small bits.user c.from-2.result c.from-2.ensures in
    let fetch = flag_small bits.fetch c.from-3.result c.from-3.ensures in
    let through = flag_small bits.through c.from-4.result c.from-4.ensures in
    let uncached = flag_small bits.uncached c.from-5.result c.from-5.ensures in
    let word = c.from.result + 2 * c.from-2.result + 4 * c.from-3.result + (8 * c.from-4.result + 16 * c.from-5.result) + 32 * c.from-6.result in
    λ i. record {
      write = flag_found bits.write c.from.result (word / 2) word c.from.ensures (omega (arith, write)) i;
      user = flag_found bits.user c.from-2.result (word / 4) (word / 2) c.from-2.ensures (omega (arith, write, user)) i;
      fetch = flag_found bits.fetch c.from-3.result (word / 8) (word / 4) c.from-3.ensures (omega (arith, write, user, fetch)) i;
      through = flag_found bits.through c.from-4.result (word / 16) (word / 8) c.from-4.ensures (omega (arith, write, user, fetch, through)) i;
      uncached = flag_found bits.uncached c.from-5.result (word / 32) (word / 16) c.from-5.ensures (omega (arith, write, user, fetch, through, uncached)) i;
      global = flag_found bits.global c.from-6.result 0 (word / 32) c.from-6.ensures (omega (arith, write, user, fetch, through, uncached)) i;
    }
