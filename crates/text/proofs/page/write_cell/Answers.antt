use Rattle.text.proofs.Writing.{cell_in_flags, cell_written}
use Rattle.text.proofs.page.write_cell.Goals as goal

pub write_flag-requires : goal.write_flag-requires
write_flag-requires c = search cell_in_flags

pub returns : goal.returns
returns c = search cell_written
