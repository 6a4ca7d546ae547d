use Rattle.std.proofs.Common.{get_or, sym, ap, ◌∙◌}
use Rattle.bits.specs.declared.Dibit.TheVariants.{D00}
use Rattle.bits.specs.Bits.{byte_bits}
use Rattle.bits.specs.Dibits.{value_of}
use Rattle.codes.specs.Convolution.{coded}
use Rattle.codes.proofs.Coder.{coded_at}
use Rattle.frame.proofs.coding.interleaved_value.Goals as goal

pub returns-clause-value : goal.returns-clause-value
returns-clause-value c =
    let us = byte_bits c.args.inputs.now in
    c.value.ensures
    ∙ ap value_of (c.coded_dibit.ensures ∙ sym (coded_at us c.item.result) ∙ ap (λ i. get_or (coded us) i D00) c.item.ensures.value)
