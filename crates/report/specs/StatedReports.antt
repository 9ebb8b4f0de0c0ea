-- Document 01, The docket and its report: the number and the values that each case of a report's answer stands for.
use Rattle.std.specs.Prelude.{ℕ, Result, Ok, Err}
use Rattle.refusal.specs.declared.Refusal.{Refusal}

-- the four numbers of a refusal, or the report's length
pub data ReportStated : Type 0 where
  refused : (number line unit period : ℕ) → ReportStated
  its_length : ℕ → ReportStated

-- every case
abbrev pub report_stated : Result ℕ Refusal → ReportStated
report_stated (Err r) = refused r.number r.line r.unit r.period
report_stated (Ok n) = its_length n
