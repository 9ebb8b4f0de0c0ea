-- `figures_shown` meets its contract: of what a sound docket holds, which is small, and else of nothing.
use mathlib.Core.Path.{sym, ap, ◌∙◌}
use Rattle.docket.specs.declared.Docket.{Docket}
use Rattle.docket.specs.Report.{figures_of}
use Rattle.docket.proofs.Differences.{sound_small}
use Rattle.docket.proofs.Reports.{trusted_sound, trusted_unsound}
use Rattle.docket.proofs.figures.figures_shown.Goals as goal

pub figures_of-requires : goal.figures_of-requires
figures_of-requires c =
    sound_small c.args.docket (sym c.is_sound.ensures ∙ c.if-is_sound.true)

pub returns-then-is_sound : goal.returns-then-is_sound
returns-then-is_sound c =
    let d = c.args.docket in
    c.figures_of.ensures ∙ ap (λ (x : Docket). figures_of x.held) (sym (trusted_sound d (sym c.is_sound.ensures ∙ c.if-is_sound.true)))

pub returns : goal.returns
returns c =
    let d = c.args.docket in
    c.figures_of-2.ensures ∙ ap (λ (x : Docket). figures_of x.held) (sym (trusted_unsound d (sym c.is_sound.ensures ∙ c.if-is_sound.false)))
