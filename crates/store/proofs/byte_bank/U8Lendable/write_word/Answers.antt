use Rattle.std.proofs.Common.{ap, ◌∙◌, arith}
use Rattle.store.specs.Bytes.{byte_words, byte_beyond}
use Rattle.store.proofs.Bytes.{part_written, byte_words_written, byte_beyond_written}
use Rattle.store.proofs.byte_bank.U8Lendable.write_word.Goals as goal

pub returns : goal.returns
returns c =
    let bs = c.args.list.now in
    let e = part_written bs _ c.args.at c.args.word (c.copy_from_slice.ensures.after ∙ c.to_be_bytes.ensures) in
    record {
      after = ap byte_words e ∙ byte_words_written bs c.args.at c.args.word (omega arith) (omega arith);
      rest = ap byte_beyond e ∙ byte_beyond_written bs c.args.at c.args.word (omega arith);
    }
