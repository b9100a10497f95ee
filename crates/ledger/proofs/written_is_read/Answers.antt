use Rattle.ledger.proofs.ReadBack.{row_written_is_read, written_is_read}
use Rattle.ledger.proofs.written_is_read.Goals as goal

pub returns : goal.returns
returns c = record { word = written_is_read; row = row_written_is_read }
