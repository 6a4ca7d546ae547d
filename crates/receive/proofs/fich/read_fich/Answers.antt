use Rattle.std.proofs.Common.{◌≡◌, Some, None, Err, sym, refl, ap, ◌∙◌, subst}
use Rattle.std.proofs.lemmas.Result.{err_from_is_err_and}
use Rattle.fault.proofs.Refusals.{none_refused, fault_refused}
use Rattle.layout.specs.declared.Block.TheVariants.{Fich}
use Rattle.trellis.specs.Answers.{work_fault}
use Rattle.receive.specs.Words.{fich_of_word}
use Rattle.receive.specs.Reading.{first_improper, or_else, frame_fault, unless_refused, best_word, HeardFich}
use Rattle.receive.proofs.Hearing.{refused_value, refused_law, no_refusal, fich_value, fich_law}
use Rattle.receive.proofs.fich.read_fich.Goals as goal

pub returns-in_err-check_sizes : goal.returns-in_err-check_sizes
returns-in_err-check_sizes g c =
    let μ = g.M.Measure.means in
    let m = c.args.m.now in
    let readings = c.args.readings.now in
    let work = c.args.work.now in
    let e = c.in_err-check_sizes.field-0.0 in
    let p = err_from_is_err_and c.from_residual.result c.from_residual.ensures.1 in
    let is : frame_fault μ m readings work ≡ Some e =
    ap (λ o. or_else o (first_improper (μ.proper m) 0 readings)) (fault_refused (work_fault readings work) tt e (sym c.check_sizes.ensures ∙ c.in_err-check_sizes.was)) in
    record { value = refused_value μ m readings work e _ is (p.1 ∙ ap Err p.2); law = refused_law μ m readings _ e _ is; kept = refl }

pub returns-in_err-check_proper : goal.returns-in_err-check_proper
returns-in_err-check_proper g c =
    let μ = g.M.Measure.means in
    let m = c.args.m.now in
    let readings = c.args.readings.now in
    let work = c.args.work.now in
    let improper = first_improper (μ.proper m) 0 readings in
    let e = c.in_err-check_proper.field-0.0 in
    let p = err_from_is_err_and c.from_residual-in_err-check_proper.result c.from_residual-in_err-check_proper.ensures.1 in
    let none = none_refused (work_fault readings work) tt tt (sym c.check_sizes.ensures ∙ c.in_ok-check_sizes.was) in
    let is : frame_fault μ m readings work ≡ Some e =
    ap (λ o. or_else o improper) none ∙ fault_refused improper tt e (sym c.check_proper.ensures ∙ c.in_err-check_proper.was) in
    record { value = refused_value μ m readings work e _ is (p.1 ∙ ap Err p.2); law = refused_law μ m readings _ e _ is; kept = refl }

pub returns-in_err-found : goal.returns-in_err-found
returns-in_err-found g c =
    let readings = c.args.readings.now in
    let sizes = work_fault readings c.args.work.now in
    no_refusal g.M.Measure.means c.args.m.now readings sizes c.search.result _
    (none_refused sizes tt tt (sym c.check_sizes.ensures ∙ c.in_ok-check_sizes.was)) c.search.ensures.answer c.in_err-found.was

pub returns : goal.returns
returns g c =
    let μ = g.M.Measure.means in
    let m = c.args.m.now in
    let readings = c.args.readings.now in
    let sizes = work_fault readings c.args.work.now in
    let improper = first_improper (μ.proper m) 0 readings in
    let found = c.in_ok-found.found in
    let was = c.in_ok-found.was in
    let searched = c.search.ensures.answer in
    let heard = c.fich_of_word.ensures in
    let none = none_refused sizes tt tt (sym c.check_sizes.ensures ∙ c.in_ok-check_sizes.was) in
    let all : frame_fault μ m readings c.args.work.now ≡ None =
    ap (λ o. or_else o improper) none ∙ none_refused improper tt tt (sym c.check_proper.ensures ∙ c.in_ok-check_proper.was) in
    record {
      value =
          fich_value μ m readings sizes c.search.result found c.fich_of_word.result none searched was heard
          ∙ sym (ap (λ o. unless_refused o (fich_of_word (best_word μ m Fich readings))) all);
      law =
          subst (λ o. HeardFich μ m readings o c.fich_of_word.result) (sym all)
          (fich_law μ m readings sizes c.search.result found c.fich_of_word.result none searched was heard);
      kept = c.search.ensures.kept;
    }
