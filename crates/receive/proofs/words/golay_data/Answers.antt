use Rattle.std.proofs.Common.{◌≡◌, Err, sym, refl, ◌∙◌, rules}
use Rattle.bits.specs.Bits.{numbers_of}
use Rattle.bits.proofs.Numbers.{length-numbers_of}
use Rattle.layout.specs.declared.Block.TheVariants.{Fich}
use Rattle.trellis.specs.Answers.{word_inputs}
use Rattle.receive.specs.Words.{golay_data}
use Rattle.receive.proofs.Fours.{four_data, four_read}
use Rattle.receive.proofs.words.golay_data.Goals as goal

pub returns-in_err-data_of : goal.returns-in_err-data_of
returns-in_err-data_of c =
    let ws = numbers_of 24 4 (word_inputs Fich c.args.word.now) in
    let whole = four_data ws (length-numbers_of 24 4 (word_inputs Fich c.args.word.now)) c.data_of.result _ _ _
    c.data_of.ensures refl refl refl in
    let w = c.in_err-data_of.was in
    let e : golay_data 0 ws ≡ Err c.in_err-data_of.field-0.0 = cc in
    search rules

pub returns-in_err-data_of-2 : goal.returns-in_err-data_of-2
returns-in_err-data_of-2 c =
    let ws = numbers_of 24 4 (word_inputs Fich c.args.word.now) in
    let whole = four_data ws (length-numbers_of 24 4 (word_inputs Fich c.args.word.now)) c.data_of.result c.data_of-2.result _ _
    c.data_of.ensures c.data_of-2.ensures refl refl in
    let w0 = c.in_ok-data_of.was in
    let w = c.in_err-data_of-2.was in
    let e : golay_data 0 ws ≡ Err c.in_err-data_of-2.field-0.0 = cc in
    search rules

pub returns-in_err-data_of-3 : goal.returns-in_err-data_of-3
returns-in_err-data_of-3 c =
    let ws = numbers_of 24 4 (word_inputs Fich c.args.word.now) in
    let whole = four_data ws (length-numbers_of 24 4 (word_inputs Fich c.args.word.now)) c.data_of.result c.data_of-2.result c.data_of-3.result _
    c.data_of.ensures c.data_of-2.ensures c.data_of-3.ensures refl in
    let w0 = c.in_ok-data_of.was in
    let w1 = c.in_ok-data_of-2.was in
    let w = c.in_err-data_of-3.was in
    let e : golay_data 0 ws ≡ Err c.in_err-data_of-3.field-0.0 = cc in
    search rules

pub returns-in_err-data_of-4 : goal.returns-in_err-data_of-4
returns-in_err-data_of-4 c =
    let ws = numbers_of 24 4 (word_inputs Fich c.args.word.now) in
    let whole = four_data ws (length-numbers_of 24 4 (word_inputs Fich c.args.word.now)) c.data_of.result c.data_of-2.result c.data_of-3.result c.data_of-4.result
    c.data_of.ensures c.data_of-2.ensures c.data_of-3.ensures c.data_of-4.ensures in
    let w0 = c.in_ok-data_of.was in
    let w1 = c.in_ok-data_of-2.was in
    let w2 = c.in_ok-data_of-3.was in
    let w = c.in_err-data_of-4.was in
    let e : golay_data 0 ws ≡ Err c.in_err-data_of-4.field-0.0 = cc in
    search rules

pub returns : goal.returns
returns c =
    four_read (numbers_of 24 4 (word_inputs Fich c.args.word.now)) (length-numbers_of 24 4 (word_inputs Fich c.args.word.now)) _ _ _ _
    (sym c.data_of.ensures ∙ c.in_ok-data_of.was) (sym c.data_of-2.ensures ∙ c.in_ok-data_of-2.was)
    (sym c.data_of-3.ensures ∙ c.in_ok-data_of-3.was) (sym c.data_of-4.ensures ∙ c.in_ok-data_of-4.was)
