-- Reports asked for between the texts change nothing: the docket is the one that the texts alone leave, so demand 3 speaks of it.
use mathlib.Core.Path.{◌≡◌, ap, sym, ◌∙◌}
use mathlib.Core.List.{List, [], ◌∷◌, ◌++◌, append_assoc, append-nil}
use Prim.Native.Nat.{ℕ}
use Rattle.docket.specs.declared.Docket.{Docket}
use Rattle.docket.specs.Docket.{fresh_docket}
use Rattle.docket.specs.Demand3.{reached, Lodging, Reporting, Writing, Demand3}
use Rattle.docket.specs.Interleaved.{Use, lodges, asks, texts_of, docket_through}
use Rattle.docket.proofs.NextText.{docket_more}

module _ (lodge : Lodging) {report : Reporting} {buffer : Writing} (D : Demand3 lodge report buffer) where
  -- from what a list leaves
  from_there : (texts : List (List ℕ)) (uses : List Use) → docket_through lodge report (reached lodge texts) uses ≡ reached lodge (texts ++ texts_of uses)
  from_there texts [] = ap (reached lodge) (sym (append-nil texts))
  from_there texts (lodges text ∷ uses) =
      ap (λ (d : Docket). docket_through lodge report d uses) (sym (docket_more lodge fresh_docket texts text))
      ∙ from_there (texts ++ (text ∷ [])) uses
      ∙ ap (reached lodge) (append_assoc texts (text ∷ []) (texts_of uses))
  from_there texts (asks b k ∷ uses) =
      ap (λ (d : Docket). docket_through lodge report d uses) ((D texts).reports b k).docket_stays ∙ from_there texts uses

  pub reports_between : (uses : List Use) → docket_through lodge report fresh_docket uses ≡ reached lodge (texts_of uses)
  reports_between uses = from_there [] uses
