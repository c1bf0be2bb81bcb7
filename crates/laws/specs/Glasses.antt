-- Each glass that there is is one that the calls ask for; and Document 01's table of the record, held to what follows from the list of parts.
use Rattle.std.specs.Prelude.{◌≡◌}
use Rattle.std.proofs.Common.{arith}
use Rattle.model.specs.Geometry.{base}
use Rattle.model.specs.Record.{head, panel, keys, flags, edge, has, distinct, total, offset, at, record_bytes}
use Rattle.model.specs.Glass.{IsGlass}

pub base_glass : IsGlass base
unfolding has distinct total
base_glass = search arith

pub record RecordTable : Type 0 where
  pub head_at : at base head ≡ 0
  pub panel_at : at base (panel 0) ≡ 18
  pub keys_at : at base keys ≡ 70
  pub flags_at : at base flags ≡ 102
  pub panel_1_at : at base (panel 1) ≡ 202
  pub panel_2_at : at base (panel 2) ≡ 254
  pub panel_3_at : at base (panel 3) ≡ 306
  pub edge_at : at base edge ≡ 358
  pub bytes : record_bytes base ≡ 359

pub record_table : RecordTable
unfolding offset total
record_table = omega arith
