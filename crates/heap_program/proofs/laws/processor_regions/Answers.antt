use Rattle.heap_program.proofs.ProcessorRegions.{finds_regions, leaves_tables}
use Rattle.heap_program.proofs.laws.processor_regions.Goals as goal

pub returns : goal.returns
returns c = record { regions = finds_regions; tables = leaves_tables }
