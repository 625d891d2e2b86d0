-- The keys of turns.
use Rattle.std.proofs.Common.{◌≡◌, ◌<◌, ◌+◌, ℕ, zero, suc, List, [], ◌∷◌, ◌++◌, length, refl, ap, ◌∙◌, arith, add-one, length-append}
use Rattle.std.specs.List.{All}
use Rattle.std.proofs.lemmas.List.Elements.{All-head, All-tail}
use Rattle.machine_io.specs.History.{Turn, moves_from}
use Rattle.simulation.specs.System.{IsKey}
use Rattle.image_map.specs.Turns.{HoldsKeys}

pub holds_before : (keys : ℕ → ℕ) (c : ℕ) (turns : List Turn) (t : Turn) → HoldsKeys keys c (turns ++ t ∷ []) → HoldsKeys keys c turns
holds_before keys c [] t h = tt
holds_before keys c (u ∷ turns) t h = (h.0, holds_before keys (suc c) turns t h.1)

holds_at : (keys : ℕ → ℕ) (c : ℕ) (turns : List Turn) (t : Turn) → HoldsKeys keys c (turns ++ t ∷ []) → keys (c + length turns) ≡ t.key
holds_at keys c [] t h = ap keys (let e : c + 0 ≡ c = omega arith in e) ∙ h.0
holds_at keys c (u ∷ turns) t h = ap keys (let e : c + suc (length turns) ≡ suc c + length turns = omega arith in e) ∙ holds_at keys (suc c) turns t h.1

pub holds_last : (keys : ℕ → ℕ) (turns : List Turn) (t : Turn) → HoldsKeys keys 0 (turns ++ t ∷ []) → keys (length turns) ≡ t.key
holds_last keys turns t h = ap keys (let e : length turns ≡ 0 + length turns = omega arith in e) ∙ holds_at keys 0 turns t h

pub one_longer : (turns : List Turn) (t : Turn) → length (turns ++ t ∷ []) ≡ suc (length turns)
one_longer turns t = length-append turns (t ∷ []) ∙ add-one (length turns)

-- the keys of turns, and then always the same key
pub key_at : ℕ → List Turn → ℕ → ℕ
key_at last [] c = last
key_at last (t ∷ turns) zero = t.key
key_at last (t ∷ turns) (suc c) = key_at last turns c

pub key_at_past : (last : ℕ) (turns : List Turn) (c : ℕ) → key_at last turns (length turns + c) ≡ last
unfolding key_at
key_at_past last [] c = refl
key_at_past last (t ∷ turns) c = ap (key_at last (t ∷ turns)) (let e : suc (length turns) + c ≡ suc (length turns + c) = omega arith in e) ∙ key_at_past last turns c

pub key_words : (last : ℕ) (turns : List Turn) → IsKey last → All (λ t. IsKey t.key) turns → (c : ℕ) → IsKey (key_at last turns c)
unfolding key_at
key_words last [] word words c = word
key_words last (t ∷ turns) word words zero = All-head (λ u. IsKey u.key) t turns words
key_words last (t ∷ turns) word words (suc c) = key_words last turns word (All-tail (λ u. IsKey u.key) t turns words) c

-- keys that hold turns are theirs
same_keys : (last : ℕ) (keys : ℕ → ℕ) (from : ℕ) (turns : List Turn) → HoldsKeys keys from turns → (c : ℕ) → c < length turns → keys (from + c) ≡ key_at last turns c
unfolding key_at
same_keys last keys from [] h c less = absurd (omega (arith, less))
same_keys last keys from (t ∷ turns) h zero less = ap keys (let e : from + 0 ≡ from = omega arith in e) ∙ h.0
same_keys last keys from (t ∷ turns) h (suc c) less =
    ap keys (let e : from + suc c ≡ suc from + c = omega arith in e) ∙ same_keys last keys (suc from) turns h.1 c (omega (arith, less))

pub are_keys : (last : ℕ) (keys : ℕ → ℕ) (turns : List Turn) → HoldsKeys keys 0 turns → (c : ℕ) → c < length turns → keys c ≡ key_at last turns c
are_keys last keys turns h c less = ap keys (let e : c ≡ 0 + c = omega arith in e) ∙ same_keys last keys 0 turns h c less

-- keys that are those of turns hold them
holds_from : (last : ℕ) (keys : ℕ → ℕ) (from : ℕ) (turns : List Turn) → ((c : ℕ) → c < length turns → keys (from + c) ≡ key_at last turns c) → HoldsKeys keys from turns
unfolding key_at
holds_from last keys from [] h = tt
holds_from last keys from (t ∷ turns) h = (
  ap keys (let e : from ≡ from + 0 = omega arith in e) ∙ h 0 (omega arith),
  holds_from last keys (suc from) turns (λ c less. ap keys (let e : suc from + c ≡ from + suc c = omega arith in e) ∙ h (suc c) (omega (arith, less))),
)

pub holds_own : (last : ℕ) (turns : List Turn) → HoldsKeys (key_at last turns) 0 turns
holds_own last turns = holds_from last (key_at last turns) 0 turns (λ c less. ap (key_at last turns) (let e : 0 + c ≡ c = omega arith in e))

-- moves under the keys of a code hold them
pub keys_held : (code : ℕ → ℕ) (c n : ℕ) → HoldsKeys code c (moves_from code c n)
keys_held code c zero = tt
keys_held code c (suc n) = (refl, keys_held code (suc c) n)

pub moves_length : (code : ℕ → ℕ) (c n : ℕ) → length (moves_from code c n) ≡ n
moves_length code c zero = refl
moves_length code c (suc n) = ap suc (moves_length code (suc c) n)
