-- Document 01, The list of demand 3: texts and reports in any order. Each is put to the docket that the one before it returned.
use Rattle.std.specs.Prelude.{List, [], ◌∷◌, ℕ}
use Rattle.docket.specs.declared.Docket.{Docket}
use Rattle.docket.specs.Demand3.{Lodging, Reporting}

-- one use of a docket: a text is lodged, or a report is asked for with a buffer and a place
pub data Use : Type 0 where
  lodges : (text : List ℕ) → Use
  asks : (b : List ℕ) (k : ℕ) → Use

-- the texts among the uses
abbrev pub texts_of : List Use → List (List ℕ)
texts_of [] = []
texts_of (lodges text ∷ uses) = text ∷ texts_of uses
texts_of (asks b k ∷ uses) = texts_of uses

module _ (lodge : Lodging) (report : Reporting) where
  abbrev pub docket_through : Docket → List Use → Docket
  docket_through d [] = d
  docket_through d (lodges text ∷ uses) = docket_through (lodge d text).docket uses
  docket_through d (asks b k ∷ uses) = docket_through (report d b k).docket uses
