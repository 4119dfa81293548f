use Rattle.dlmalloc.proofs.Names.{rules}
use Rattle.heap_memory.specs.AskLaws.{asks_on}
use Rattle.dlmalloc.proofs.record.put_payload.Goals as goal

pub returns : goal.returns
returns g c =
    let one = c.store_counted.ensures in let two = c.store_counted-2.ensures in let three = c.store_counted-3.ensures in
    let four = c.store_counted-4.ensures in let five = c.store_counted-5.ensures in
    record {
      stored = search rules;
      asks = asks_on (asks_on (asks_on (asks_on (record { regions = one.regions; follows = one.follows })
          (record { regions = two.regions; follows = two.follows })) (record { regions = three.regions; follows = three.follows }))
          (record { regions = four.regions; follows = four.follows })) (record { regions = five.regions; follows = five.follows });
    }
