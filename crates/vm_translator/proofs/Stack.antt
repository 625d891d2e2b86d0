-- How the frames lie on the stack, and what a change of the memory leaves.
use Rattle.std.proofs.Common.{◌≡◌, ◌≢◌, ℕ, Option, zero, suc, ◌+◌, ◌<◌, ◌≤◌, List, [], ◌∷◌, ◌++◌, length, reverse, take, drop, ap, ◌∙◌, sym, subst, arith, append_assoc, length-append}
use Rattle.std.specs.Prelude.{slice_index, slice_set}
use Rattle.std.proofs.lemmas.Grind.{reverse_onto}
use Rattle.std.proofs.lemmas.List.{length-reverse, reverse-append, take-append-drop}
use Rattle.vm_machine.specs.State.{Frame, words_in_use}
use Rattle.vm_translator.specs.Stands.{Holds, Laid, own_words, words_saved}

pub holds_kept : (m after : ℕ → ℕ) (b : ℕ) (ws : List ℕ) → Holds m b ws → ((k : ℕ) → b ≤ k → k < b + length ws → after k ≡ m k) → Holds after b ws
holds_kept m after b [] h e = tt
holds_kept m after b (w ∷ ws) h e = (e b (omega arith) (omega arith) ∙ h.0, holds_kept m after (b + 1) ws h.1 (λ k p q. e k (omega arith) (omega arith)))

pub holds_both : (m : ℕ → ℕ) (b : ℕ) (xs ys : List ℕ) → Holds m b xs → Holds m (b + length xs) ys → Holds m b (xs ++ ys)
holds_both m b [] ys h k = let e : b + 0 ≡ b = omega arith in subst (λ p. Holds m p ys) e k
holds_both m b (x ∷ xs) ys h k =
    let e : b + suc (length xs) ≡ b + 1 + length xs = omega arith in
    (h.0, holds_both m (b + 1) xs ys h.1 (subst (λ p. Holds m p ys) e k))

pub holds_front : (m : ℕ → ℕ) (b : ℕ) (xs ys : List ℕ) → Holds m b (xs ++ ys) → Holds m b xs
holds_front m b [] ys h = tt
holds_front m b (x ∷ xs) ys h = (h.0, holds_front m (b + 1) xs ys h.1)

pub holds_back : (m : ℕ → ℕ) (b : ℕ) (xs ys : List ℕ) → Holds m b (xs ++ ys) → Holds m (b + length xs) ys
holds_back m b [] ys h = let e : b ≡ b + 0 = omega arith in subst (λ p. Holds m p ys) e h
holds_back m b (x ∷ xs) ys h =
    let e : b + 1 + length xs ≡ b + suc (length xs) = omega arith in
    subst (λ p. Holds m p ys) e (holds_back m (b + 1) xs ys h.1)

pub holds_at : (m : ℕ → ℕ) (b : ℕ) (ws : List ℕ) (i : ℕ) → Holds m b ws → i < length ws → m (b + i) ≡ slice_index ws i
holds_at m b [] i h l = absurd (omega arith)
holds_at m b (w ∷ ws) zero h l = let e : b + 0 ≡ b = omega arith in ap m e ∙ h.0
holds_at m b (w ∷ ws) (suc i) h l =
    let e : b + suc i ≡ b + 1 + i = omega arith in
    ap m e ∙ holds_at m (b + 1) ws i h.1 (omega arith)

pub holds_set : (m after : ℕ → ℕ) (b : ℕ) (ws : List ℕ) (i y : ℕ) → Holds m b ws → after (b + i) ≡ y → ((k : ℕ) → b ≤ k → k < b + length ws → k ≢ b + i → after k ≡ m k) → Holds after b (slice_set ws i y)
holds_set m after b [] i y h t e = tt
holds_set m after b (w ∷ ws) zero y h t e =
    let z : b + 0 ≡ b = omega arith in
    (ap after (sym z) ∙ t, holds_kept m after (b + 1) ws h.1 (λ k p q. e k (omega arith) (omega arith) (omega arith)))
holds_set m after b (w ∷ ws) (suc i) y h t e =
    let z : b + suc i ≡ b + 1 + i = omega arith in
    (e b (omega arith) (omega arith) (omega arith) ∙ h.0, holds_set m after (b + 1) ws i y h.1 (ap after (sym z) ∙ t) (λ k p q r. e k (omega arith) (omega arith) (omega arith)))

module _ (address : Option ℕ → ℕ → ℕ) where
  -- the words in use, by the words of each frame
  pub use_is : (f : Frame) (below : List Frame) → words_in_use (f ∷ below) ≡ words_in_use below + length (own_words address f below)
  use_is f [] = omega (arith, length-reverse f.values)
  use_is f (g ∷ below) =
      omega (arith, length-append (f.arguments ++ words_saved address g below) (f.locals ++ reverse f.values), length-append f.arguments (words_saved address g below), length-append f.locals (reverse f.values), length-reverse f.values)

  pub laid_kept : (m after : ℕ → ℕ) (fs : List Frame) → Laid address m fs → ((k : ℕ) → 256 ≤ k → k < 256 + words_in_use fs → after k ≡ m k) → Laid address after fs
  laid_kept m after [] h e = tt
  laid_kept m after (f ∷ below) h e =
      let u = use_is f below in
      (laid_kept m after below h.0 (λ k p q. e k p (omega arith)), holds_kept m after (256 + words_in_use below) (own_words address f below) h.1 (λ k p q. e k (omega arith) (omega arith)))

  -- the topmost value is the last word
  pub own_top : (f : Frame) (below : List Frame) (x : ℕ) (values : List ℕ) → f.values ≡ x ∷ values → own_words address f below ≡ own_words address (record f { values = values }) below ++ x ∷ []
  own_top f [] x values e = ap reverse e ∙ reverse_onto values x []
  own_top f (g ∷ below) x values e =
      let turned = ap reverse e ∙ reverse_onto values x [] in
      ap (λ r. (f.arguments ++ words_saved address g below) ++ (f.locals ++ r)) turned
      ∙ ap (λ r. (f.arguments ++ words_saved address g below) ++ r) (sym (append_assoc f.locals (reverse values) (x ∷ [])))
      ∙ sym (append_assoc (f.arguments ++ words_saved address g below) (f.locals ++ reverse values) (x ∷ []))

  -- the values that become arguments are the last words
  pub own_cut : (f : Frame) (below : List Frame) (n : ℕ) → own_words address f below ≡ own_words address (record f { values = drop n f.values }) below ++ reverse (take n f.values)
  own_cut f [] n = ap reverse (sym (take-append-drop n f.values)) ∙ reverse-append (take n f.values) (drop n f.values)
  own_cut f (g ∷ below) n =
      let turned = ap reverse (sym (take-append-drop n f.values)) ∙ reverse-append (take n f.values) (drop n f.values) in
      ap (λ r. (f.arguments ++ words_saved address g below) ++ (f.locals ++ r)) turned
      ∙ ap (λ r. (f.arguments ++ words_saved address g below) ++ r) (sym (append_assoc f.locals (reverse (drop n f.values)) (reverse (take n f.values))))
      ∙ sym (append_assoc (f.arguments ++ words_saved address g below) (f.locals ++ reverse (drop n f.values)) (reverse (take n f.values)))
