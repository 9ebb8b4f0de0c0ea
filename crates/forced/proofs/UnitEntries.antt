-- One unit's coded entries over the arrays that begin with its periods' costs: they are in range, and in numbers they are its table.
use mathlib.Core.Path.{◌≡◌, refl, sym, ap, ap₂, ◌∙◌}
use mathlib.Core.Bool.{Bool, true, false, cond}
use mathlib.Core.List.{List, [], ◌∷◌, ◌++◌, map}
use mathlib.Core.Option.{Option}
use Prim.Native.Nat.{ℕ, zero, suc, ◌+◌, ◌*◌, ◌≤◌, ◌<◌}
use native.Mathlib.Omega.{arith}
use lib.Dec.{eqb}
use lib.IntN.{ℤ}
use lib.ListN.{length, take}
use lib.Seq.{take_at}
use Rattle.model.specs.declared.generator.Generator.{Generator}
use Rattle.model.specs.Instance.{◌at◌}
use Rattle.model.specs.Ranges.{All, GoodUnit}
use Rattle.model.specs.Above.{Mark, fixed, allows}
use Rattle.model.specs.Leaf.{gather, range}
use Rattle.model.specs.Walk.{walk}
use Rattle.model.specs.Prices.{worth, offset, decoded}
use Rattle.model.specs.Forced.{force, forced_least, forced_table, value_number, stuck_number}
use Rattle.model.specs.ForcedWalk.{forced_walk}
use Rattle.model.proofs.Extents.{Same}
use Rattle.model.proofs.WalkPeriods.{walk_ext}
use Rattle.model.proofs.WalkSizes.{walk_fits}
use Rattle.model.proofs.ForcedLeasts.{forced_decoded}
use Rattle.walk.specs.Limits.{GoodValue}
use Rattle.walk.specs.GoingBack.{costs_of}
use Rattle.least.specs.Limits.{GoodPrices}
use Rattle.least.specs.Priced.{Priced}
use Rattle.least.proofs.Costs.{price_in, reserve_in}
use Rattle.forced.specs.Entries.{Filled, number_of, byte_of}

-- ---- lists of two for each period

module _ {A : Type 0} where
  -- from period k on, of n periods
  abbrev pub pairs : (ℕ → A) → (ℕ → A) → ℕ → ℕ → List A
  pairs a b k n = gather (λ t. a t ∷ (b t ∷ [])) (range k n)

  pub pairs_long : (a b : ℕ → A) (k n : ℕ) → length (pairs a b k n) ≡ 2 * n
  pairs_long a b k zero = refl
  pairs_long a b k (suc n) = omega (arith, pairs_long a b (suc k) n)

  pub pairs_ext : (a b a' b' : ℕ → A) (k n : ℕ) → ((t : ℕ) → t < k + n → a t ≡ a' t) → ((t : ℕ) → t < k + n → b t ≡ b' t) → pairs a b k n ≡ pairs a' b' k n
  pairs_ext a b a' b' k zero h i = refl
  pairs_ext a b a' b' k (suc n) h i =
      rw (h k (omega arith), i k (omega arith), pairs_ext a b a' b' (suc k) n (λ t l. h t (omega arith)) (λ t l. i t (omega arith))) refl

  pub pairs_all : (R : A → Type 0) (a b : ℕ → A) → ((t : ℕ) → R (a t)) → ((t : ℕ) → R (b t)) → (k n : ℕ) → All R (pairs a b k n)
  pairs_all R a b h i k zero = tt
  pairs_all R a b h i k (suc n) = (h k, (i k, pairs_all R a b h i (suc k) n))

pub pairs_map : {A B : Type 0} (F : A → B) (a b : ℕ → A) (k n : ℕ) → map F (pairs a b k n) ≡ pairs (λ t. F (a t)) (λ t. F (b t)) k n
pairs_map F a b k zero = refl
pairs_map F a b k (suc n) = ap (λ (l : List _). F (a k) ∷ (F (b k) ∷ l)) (pairs_map F a b (suc k) n)

-- a list is known by its entries
pub listed_pairs : (a b : ℕ → ℕ) (k n : ℕ) (l : List ℕ) → length l ≡ 2 * n
    → ((t : ℕ) → t < n → (l at (2 * t) ≡ a (k + t)) × (l at (2 * t + 1) ≡ b (k + t))) → l ≡ pairs a b k n
listed_pairs a b k zero [] e h = refl
listed_pairs a b k zero (x ∷ l) e h = absurd (omega arith)
listed_pairs a b k (suc n) [] e h = absurd (omega arith)
listed_pairs a b k (suc n) (x ∷ []) e h = absurd (omega arith)
listed_pairs a b k (suc n) (x ∷ (y ∷ l)) e h =
    rw (first, second, listed_pairs a b (suc k) n l (omega arith) later) refl
  where
    i : k + 0 ≡ k
    i = omega arith

    first : x ≡ a k
    first = (h 0 (omega arith)).0 ∙ ap a i

    second : y ≡ b k
    second = (h 0 (omega arith)).1 ∙ ap b i

    later : (t : ℕ) → t < n → (l at (2 * t) ≡ a (suc k + t)) × (l at (2 * t + 1) ≡ b (suc k + t))
    later t j =
        let p : suc (suc (2 * t)) ≡ 2 * suc t = omega arith in
        let r : suc (suc (2 * t + 1)) ≡ 2 * suc t + 1 = omega arith in
        let u : k + suc t ≡ suc k + t = omega arith in (
          ap (λ (v : ℕ). (x ∷ (y ∷ l)) at v) p ∙ (h (suc t) (omega arith)).0 ∙ ap a u,
          ap (λ (v : ℕ). (x ∷ (y ∷ l)) at v) r ∙ (h (suc t) (omega arith)).1 ∙ ap b u,
        )

-- ---- the forced walk sees no period past the last

pub forced_walk_ext : (n : ℕ) (g : Generator) (m m' : ℕ → Mark) (w w' : ℕ → Bool → ℕ) → Same n m m' → ((t : ℕ) → t < n → (d : Bool) → w t d ≡ w' t d)
    → (t : ℕ) → t < n → (d : Bool) → forced_walk n g m w t d ≡ forced_walk n g m' w' t d
unfolding forced_walk
forced_walk_ext n g m m' w w' h i t l d =
    ap₂ (λ (a : Mark) (v : ℕ). cond (allows a d) v 0) (h t l)
    (walk_ext n g (force t d m) (force t d m') w w' (λ j k. ap (λ (a : Mark). cond (eqb t j) (fixed d) a) (h j k)) i g.on g.since)

-- and neither does an entry, or the table
module _ (n : ℕ) (q s : ℕ → ℕ) (g : Generator) (good : GoodUnit g) (m m' : ℕ → Mark) (h : Same n m m') where
  abbrev w : ℕ → Bool → ℕ
  w t = worth g (q t) (s t)

  pub forced_least_ext : (t : ℕ) → t < n → (d : Bool) → forced_least n q s g m t d ≡ forced_least n q s g m' t d
  forced_least_ext t l d =
      forced_decoded n q s g good m t d
      ∙ ap (λ (v : ℕ). decoded v (offset n q s g)) (forced_walk_ext n g m m' w w h (λ t l d. refl) t l d)
      ∙ sym (forced_decoded n q s g good m' t d)

  pub forced_table_ext : forced_table n q s g m ≡ forced_table n q s g m'
  unfolding forced_table
  forced_table_ext =
      pairs_ext (λ t. forced_least n q s g m t false) (λ t. forced_least n q s g m t true) (λ t. forced_least n q s g m' t false) (λ t. forced_least n q s g m' t true)
      0 n (λ t l. forced_least_ext t (omega arith) false) (λ t l. forced_least_ext t (omega arith) true)

pub forced_table_long : (n : ℕ) (q s : ℕ → ℕ) (g : Generator) (m : ℕ → Mark) → length (forced_table n q s g m) ≡ 2 * n
unfolding forced_table
forced_table_long n q s g m = pairs_long (λ t. forced_least n q s g m t false) (λ t. forced_least n q s g m t true) 0 n

-- ---- coded entries

module _ (n : ℕ) (g : Generator) (m : ℕ → Mark) (w : ℕ → Bool → ℕ) (l : List ℕ) (F : Filled n g m w l) where
  filled_pairs : l ≡ pairs (λ t. forced_walk n g m w t false) (λ t. forced_walk n g m w t true) 0 n
  filled_pairs = listed_pairs (λ t. forced_walk n g m w t false) (λ t. forced_walk n g m w t true) 0 n l F.long each
    where
      each : (t : ℕ) → t < n → (l at (2 * t) ≡ forced_walk n g m w (0 + t) false) × (l at (2 * t + 1) ≡ forced_walk n g m w (0 + t) true)
      each t i =
          let e : t ≡ 0 + t = omega arith in
          ((F.entries t i).0 ∙ ap (λ (v : ℕ). forced_walk n g m w v false) e, (F.entries t i).1 ∙ ap (λ (v : ℕ). forced_walk n g m w v true) e)

  -- over other costs that are the same in each period
  pub filled_ext : (w' : ℕ → Bool → ℕ) → ((t : ℕ) → t < n → (d : Bool) → w t d ≡ w' t d) → Filled n g m w' l
  filled_ext w' h =
      record {
        long = F.long;
        entries = λ t i. (
          (F.entries t i).0 ∙ forced_walk_ext n g m m w w' (λ t l. refl) h t i false,
          (F.entries t i).1 ∙ forced_walk_ext n g m m w w' (λ t l. refl) h t i true,
        );
      }

-- at prices
module _ (n : ℕ) (q s : ℕ → ℕ) (g : Generator) (good : GoodUnit g) (m : ℕ → Mark) (l : List ℕ) (F : Filled n g m (λ t. worth g (q t) (s t)) l) where
  abbrev W : Bool → ℕ → ℕ
  W d t = forced_walk n g m (λ t. worth g (q t) (s t)) t d

  abbrev K : ℕ
  K = offset n q s g

  -- decoded they are the table, whatever is then made of an entry
  decoded_table : {A : Type 0} (N : Option ℤ → A) → map (λ (e : ℕ). N (decoded e K)) l ≡ map N (forced_table n q s g m)
  unfolding forced_table
  decoded_table N =
      ap (map (λ (e : ℕ). N (decoded e K))) (filled_pairs n g m (λ t. worth g (q t) (s t)) l F)
      ∙ pairs_map (λ (e : ℕ). N (decoded e K)) (W false) (W true) 0 n
      ∙ pairs_ext (λ t. N (decoded (W false t) K)) (λ t. N (decoded (W true t) K)) (λ t. N (forced_least n q s g m t false)) (λ t. N (forced_least n q s g m t true)) 0 n
      (λ t i. ap N (sym (forced_decoded n q s g good m t false))) (λ t i. ap N (sym (forced_decoded n q s g good m t true)))
      ∙ sym (pairs_map N (λ t. forced_least n q s g m t false) (λ t. forced_least n q s g m t true) 0 n)

  pub filled_table : map (number_of K) l ≡ map value_number (forced_table n q s g m)
  filled_table = decoded_table value_number

  pub filled_stuck : map (byte_of K) l ≡ map stuck_number (forced_table n q s g m)
  filled_stuck = decoded_table stuck_number

-- they leave room for a sum
module _ (n : ℕ) (q s : List ℕ) (P : GoodPrices n q s) (g : Generator) (good : GoodUnit g) (m : ℕ → Mark) where
  abbrev costs : ℕ → Bool → ℕ
  costs t = worth g (q at t) (s at t)

  pub forced_walk_fits : (t : ℕ) (d : Bool) → forced_walk n g m costs t d ≤ 1_000_000_000_000_000
  unfolding forced_walk
  forced_walk_fits t d = go (allows (m t) d)
    where
      go : (c : Bool) → cond c (walk n g (force t d m) costs g.on g.since) 0 ≤ 1_000_000_000_000_000
      go true =
          walk_fits g good n P.periods_in.1 (λ t. q at t) (λ t. s at t) (λ t l. price_in n q s P t) (λ t l. reserve_in n q s P t) (force t d m) g.on g.since
      go false = omega arith

  pub filled_good : (l : List ℕ) → Filled n g m costs l → All GoodValue l
  filled_good l F =
      rw (filled_pairs n g m costs l F)
      (pairs_all GoodValue (λ t. forced_walk n g m costs t false) (λ t. forced_walk n g m costs t true) (λ t. small t false) (λ t. small t true) 0 n)
    where
      small : (t : ℕ) (d : Bool) → GoodValue (forced_walk n g m costs t d)
      small t d = (omega arith, omega (arith, forced_walk_fits t d))

-- ---- the fronts of the arrays

module _ (g : Generator) (m : ℕ → Mark) (q s on off rest entries after : List ℕ) (K : Priced g q s on off)
    (F : Filled (length (take (length q) (on ++ rest))) g m (costs_of (take (length q) (on ++ rest)) (take (length q) (off ++ rest))) entries) where
  abbrev n : ℕ
  n = length q

  at_prices : Filled n g m (λ t. worth g (q at t) (s at t)) entries
  at_prices = filled_ext n g m (costs_of on off) entries whole (λ t. worth g (q at t) (s at t)) same
    where
      whole : Filled n g m (costs_of on off) entries
      whole = rw (take_at on rest n K.on_long, take_at off rest n K.off_long, K.on_long) at F

      same : (t : ℕ) → t < n → (d : Bool) → costs_of on off t d ≡ worth g (q at t) (s at t) d
      same t l true = K.on_at t l
      same t l false = K.off_at t l

  -- the array of the entries begins with them
  entries_front : take (2 * n) (entries ++ after) ≡ entries
  entries_front = take_at entries after (2 * n) at_prices.long

  module _ (good : GoodUnit g) where
    pub front_entries_good : GoodPrices n q s → All GoodValue (take (2 * n) (entries ++ after))
    front_entries_good P = rw entries_front (filled_good n q s P g good m entries at_prices)

    module _ (added : ℕ) (e : added ≡ offset n (λ t. q at t) (λ t. s at t) g) where
      pub front_values : map (number_of added) (take (2 * n) (entries ++ after)) ≡ map value_number (forced_table n (λ t. q at t) (λ t. s at t) g m)
      front_values = rw (e, entries_front) (filled_table n (λ t. q at t) (λ t. s at t) g good m entries at_prices)

      pub front_stuck : map (byte_of added) (take (2 * n) (entries ++ after)) ≡ map stuck_number (forced_table n (λ t. q at t) (λ t. s at t) g m)
      front_stuck = rw (e, entries_front) (filled_stuck n (λ t. q at t) (λ t. s at t) g good m entries at_prices)
