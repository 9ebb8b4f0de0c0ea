-- The search for the next line that begins with e, byte 101: only such a line can begin end=.
use Rattle.std.specs.Prelude.{Bool, true, not, ◌&&◌, cond, List, [], ◌∷◌, ℕ, suc, eqb}
use Rattle.text.specs.Forms.{byte_is}

-- no byte 10 has an e behind it
abbrev pub without_e : List ℕ → Bool
without_e [] = true
without_e (b ∷ t) = not (eqb b 10 && byte_is t 101) && without_e t

-- how many bytes there are before the first e that stands behind a byte 10, or in all
abbrev pub to_e : List ℕ → ℕ
to_e [] = 0
to_e (b ∷ t) = cond (eqb b 10 && byte_is t 101) 1 (suc (to_e t))
