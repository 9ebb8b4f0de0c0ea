-- Reports byte for byte: of a fresh docket, and of the docket after the texts of document 01's example.
use Rattle.std.specs.Prelude.{Some}
use mathlib.Core.Path.{◌≡◌, ap, ◌∙◌}
use lib.IntN.{pos}
use Rattle.writer.specs.Written.{figure_of}
use Rattle.report.proofs.Examples.{nothing_held_text, nothing_held, example_text, example}
use Rattle.docket.specs.declared.held.HeldBound.TheVariants as bound
use Rattle.docket.specs.Docket.{fresh_docket, sound}
use Rattle.docket.specs.Lodging.{lodge_of}
use Rattle.docket.specs.Demand3.{docket_after}
use Rattle.docket.specs.Report.{report_text, text_shown}
use Rattle.docket.specs.Specimens.{listed_texts}
use Rattle.docket.proofs.SpecimenList.{listing_held}
use Rattle.docket.proofs.Reports.{shown_reached}

pub fresh_report : text_shown fresh_docket ≡ nothing_held_text
unfolding sound
fresh_report = nothing_held

-- 1980 by 7, and 1980 by 3: the gap is 0
held_report : report_text (record { cost = Some (record { cost = 1980; writer = 7 }); bound = bound.Number (record { value = pos 1980; writer = 3 }) }) ≡ example_text
unfolding figure_of
held_report = example

pub listing_report : text_shown (docket_after lodge_of fresh_docket listed_texts) ≡ example_text
listing_report = shown_reached listed_texts ∙ ap report_text listing_held ∙ held_report
