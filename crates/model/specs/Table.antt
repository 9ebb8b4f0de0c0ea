-- What the code keeps of a walk: the values of the states on for 1 to TU periods, and off for 1 to TD + Tcold + 1, at most 145;
-- and how it goes one period back over the states of one status, in place.
use Rattle.std.specs.Prelude.{◌≡◌, Bool, true, false, cond, List, ℕ, suc, ◌+◌, ◌-◌, ◌<◌, min, leb, eqb, length, get_or}
use Rattle.model.specs.declared.generator.Generator.{Generator}
use Rattle.model.specs.Above.{Mark, allows}
use Rattle.model.specs.Walk.{plus, lesser, Values, walk, cap}

-- the values of the states of the status b
pub record Tabled (g : Generator) (X : Values) (b : Bool) (l : List ℕ) : Type 0 where
  pub long : length l ≡ cap g b
  pub entry : (k : ℕ) → k < cap g b → get_or l k 0 ≡ X b (suc k)

-- the value of leaving a status after n periods, of len states: last at the last one, early from need on
abbrev pub gone : ℕ → ℕ → ℕ → ℕ → ℕ → ℕ
gone n len need early last = cond (eqb n len) last (cond (leb need n) early 0)

-- a period in the status d that costs v, where d is allowed; X is the value after it
abbrev pub kept : Bool → ℕ → ℕ → ℕ
kept allowed v X = cond allowed (plus v X) 0

-- going off, a period off costing v, before the values off of the table; and going on for the start's cost c, a period on
-- costing v, before the values on
abbrev pub leave : Generator → Mark → ℕ → List ℕ → ℕ
leave g m v offs = kept (allows m false) (g.Dc + v) (get_or offs 0 0)

abbrev pub enter : ℕ → Mark → ℕ → List ℕ → ℕ
enter c m v ons = kept (allows m true) (c + v) (get_or ons 0 0)

-- the new value of the state at k: leaving the status, or keeping it for v
abbrev pub chain_at : List ℕ → ℕ → ℕ → ℕ → Bool → ℕ → ℕ → ℕ
chain_at old need early last allowed v k =
    lesser (gone (k + 1) (length old) need early last) (kept allowed v (get_or old (min (k + 1) (length old - 1)) 0))

pub record Chained (old new : List ℕ) (need early last : ℕ) (allowed : Bool) (v : ℕ) : Type 0 where
  pub same : length new ≡ length old
  pub at : (k : ℕ) → k < length old → get_or new k 0 ≡ chain_at old need early last allowed v k

-- the values before period t of n: those of the periods t, t + 1, .., n - 1
unfoldable pub values : ℕ → Generator → (ℕ → Mark) → (ℕ → Bool → ℕ) → ℕ → Values
values n g m w t = walk (n - t) g (λ i. m (t + i)) (λ i. w (t + i))
