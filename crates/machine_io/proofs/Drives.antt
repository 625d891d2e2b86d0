-- A drive, one move longer.
use Rattle.std.proofs.Common.{◌≡◌, ℕ, zero, suc, ◌+◌, List, [], ◌∷◌, ◌++◌, sym, ap, ◌∙◌, subst, arith, append_assoc, append-nil, add-one, Result, Ok, Err}
use Rattle.std.specs.Prelude.{OnErr}
use Rattle.machine_io.specs.declared.machine.Moved.{Moved}
use Rattle.machine_io.specs.declared.machine.Moved.TheVariants.{Acted}
use Rattle.machine_io.specs.History.{Turn, turn, moves_from, moves_in}
use Rattle.machine_io.specs.Driven.{Goes}

moves_more : (code : ℕ → ℕ) (c m : ℕ) → moves_from code c (suc m) ≡ moves_from code c m ++ turn (code (c + m)) Acted ∷ []
moves_more code c zero = let e : c ≡ c + 0 = omega arith in ap (λ n. turn (code n) Acted ∷ []) e
moves_more code c (suc m) =
    let e : suc c + m ≡ c + suc m = omega arith in
    ap (λ ts. turn (code c) Acted ∷ ts) (moves_more code (suc c) m ∙ ap (λ n. moves_from code (suc c) m ++ turn (code n) Acted ∷ []) e)

-- nothing done yet
pub goes_none : (code : ℕ → ℕ) (old : List Turn → Type 0) (c : ℕ) → Goes code old c 0 [] old c
goes_none code old c = record { leads = λ turns h. subst old (sym (append-nil turns)) h; counts = omega arith }

-- a turn after m moves, given by a machine's step with its key and its answer
pub goes_on : (code : ℕ → ℕ) (old mid new : List Turn → Type 0) (c m k c' c'' key : ℕ) (answer answer' : Moved)
    → Goes code old c m [] mid c' → k ≡ c' → key ≡ code k → answer' ≡ answer
    → ((turns : List Turn) → mid turns → new (turns ++ turn key answer' ∷ [])) → c'' ≡ moves_in answer' + c' → moves_in answer ≡ 0
    → Goes code old c m (turn (code (c + m)) answer ∷ []) new c''
goes_on code old mid new c m k c' c'' key answer answer' g at_k is_key is_answer stepped counted still =
    let same : turn key answer' ≡ turn (code (c + m)) answer = ap (λ z. turn z answer') (is_key ∙ ap code (at_k ∙ g.counts)) ∙ ap (turn (code (c + m))) is_answer in
    let zero_made = ap moves_in is_answer ∙ still in
    record {
      leads = λ turns o. subst new (last_turn turns same) (stepped _ (g.leads turns o));
      counts = counted ∙ ap (λ z. z + c') zero_made ∙ (let e : 0 + c' ≡ c' = omega arith in e) ∙ g.counts;
    }
  where
    last_turn : (turns : List Turn) → turn key answer' ≡ turn (code (c + m)) answer
        → (turns ++ (moves_from code c m ++ [])) ++ turn key answer' ∷ [] ≡ turns ++ (moves_from code c m ++ turn (code (c + m)) answer ∷ [])
    last_turn turns e =
        ap (λ l. (turns ++ l) ++ turn key answer' ∷ []) (append-nil (moves_from code c m))
        ∙ append_assoc turns (moves_from code c m) (turn key answer' ∷ [])
        ∙ ap (λ t. turns ++ (moves_from code c m ++ t ∷ [])) e

-- one more move
pub goes_more : (code : ℕ → ℕ) (old mid new : List Turn → Type 0) (c m k c' c'' key : ℕ) (answer : Moved)
    → Goes code old c m [] mid c' → k ≡ c' → key ≡ code k → answer ≡ Acted
    → ((turns : List Turn) → mid turns → new (turns ++ turn key answer ∷ [])) → c'' ≡ moves_in answer + c'
    → Goes code old c (m + 1) [] new c''
goes_more code old mid new c m k c' c'' key answer g at_k is_key is_answer stepped counted =
    let same : turn key answer ≡ turn (code (c + m)) Acted = ap (λ z. turn z answer) (is_key ∙ ap code (at_k ∙ g.counts)) ∙ ap (turn (code (c + m))) is_answer in
    let one_made = ap moves_in is_answer in
    let before = g.counts in
    record {
      leads = λ turns o. subst new (one_turn turns same) (stepped _ (g.leads turns o));
      counts = omega (arith, counted, one_made, before);
    }
  where
    one_turn : (turns : List Turn) → turn key answer ≡ turn (code (c + m)) Acted
        → (turns ++ (moves_from code c m ++ [])) ++ turn key answer ∷ [] ≡ turns ++ (moves_from code c (m + 1) ++ [])
    one_turn turns e =
        ap (λ l. (turns ++ l) ++ turn key answer ∷ []) (append-nil (moves_from code c m))
        ∙ append_assoc turns (moves_from code c m) (turn key answer ∷ [])
        ∙ ap (λ t. turns ++ (moves_from code c m ++ t ∷ [])) e
        ∙ ap (λ l. turns ++ l) (sym (ap (moves_from code c) (add-one m) ∙ moves_more code c m) ∙ sym (append-nil (moves_from code c (m + 1))))

-- a move that wanted memory
pub goes_back : (code : ℕ → ℕ) (old mid new : List Turn → Type 0) (c m c' c'' : ℕ) → Goes code old c m [] mid c'
    → ((turns : List Turn) → mid turns → new turns) → c'' ≡ c' → Goes code old c m [] new c''
goes_back code old mid new c m c' c'' g kept same = record { leads = λ turns o. kept _ (g.leads turns o); counts = same ∙ g.counts }

-- what holds anyway holds on an error
pub on_err : {T E : Type 0} (r : Result T E) (P : Type 0) → P → OnErr r P
on_err (Ok x) P p = tt
on_err (Err e) P p = p
