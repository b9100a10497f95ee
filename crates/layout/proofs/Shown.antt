-- The figures compute.
use Rattle.std.proofs.Common.{refl}
use Rattle.ledger.specs.Doors.{door, put}
use Rattle.ledger.specs.Ledger.{ask}
use Rattle.ledger.specs.Trees.{free}
use Rattle.layout.specs.Keeping.{made}
use Rattle.layout.specs.Figures.{Figures}

pub figures : Figures
unfolding ask free door put made
figures = record {
  pack_row = refl;
  pack_table = refl;
  made_67 = refl;
  made_66 = refl;
  a_names = refl;
  a_chain = refl;
  five = refl;
  five_chain = refl;
  six = refl;
  seven = refl;
  again_six = refl;
  again_seven = refl;
  combine = refl;
  combine_chain = refl;
  insert = refl;
  insert_length = refl;
  insert_chain = refl;
  delete = refl;
  nested_firsts = refl;
  nested_backs = refl;
  nested_chain = refl;
}
