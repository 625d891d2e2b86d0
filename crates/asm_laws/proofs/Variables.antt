-- The second pass: variables.
use Rattle.std.proofs.Common.{◌≡◌, ◌<◌, ℕ, ◌+◌, ◌++◌, Bool, true, false, List, [], ◌∷◌, Option, Some, None, length, refl, sym, ap, subst, ◌∙◌, ◌⊎◌, inl, inr, arith, append_assoc, append-nil, length-append, if◌then◌else◌}
use Rattle.std.specs.Prelude.{is_some}
use Rattle.hack_asm.specs.Program.{Table, address_in, enter_variable, entry_of, or_entry, predefined_value, used_symbol, variables, with_entry}
use Rattle.hack_asm.specs.Trees.{Line, Symbol}
use Rattle.asm_laws.specs.Symbols.{HasUse, HasValue, IsAmong, IsVariable, AreVariables, StandsBehind, variable}
use Rattle.asm_laws.proofs.Lists.{any_left, any_split}
use Rattle.asm_laws.proofs.Labels.{Entered, Free, entry_cases, entry_kept, entry_own, free_of, label_of, labelled}
use Rattle.asm_laws.proofs.Past.{IsUse, unused, use_is, used_is}

is_now : (o : Option ℕ) (n : ℕ) → o ≡ Some n → is_some o ≡ true
is_now o n e = ap is_some e

none_is : (o : Option ℕ) → o ≡ None → is_some o ≡ true → ⊥
none_is o e f = cc

none_some : (o : Option ℕ) (n : ℕ) → o ≡ None → o ≡ Some n → ⊥
none_some o n e f = cc

some_of : (o : Option ℕ) → is_some o ≡ true → (n : ℕ) × (o ≡ Some n)
some_of (Some n) e = (n, refl)
some_of None e = absurd (let bad : ⊥ = cc in bad)

-- what is entered has an address
addressed : (t : Table) (name : List ℕ) → is_some (entry_of t name) ≡ true → is_some (address_in t name) ≡ true
addressed t name e = by (predefined_value name)
  where
    by : (o : Option ℕ) → is_some (or_entry o (entry_of t name)) ≡ true
    by (Some n) = refl
    by None = e

entry_stays : (t : Table) (name m : List ℕ) (k : ℕ) → is_some (entry_of t m) ≡ true → is_some (entry_of (with_entry t name k) m) ≡ true
entry_stays t name m k e = let s = some_of (entry_of t m) e in is_now (entry_of (with_entry t name k) m) s.0 (entry_kept t name m k s.0 s.1)

address_stays : (t : Table) (name m : List ℕ) (k : ℕ) → is_some (address_in t m) ≡ true → is_some (address_in (with_entry t name k) m) ≡ true
address_stays t name m k e = by (predefined_value m) e
  where
    by : (o : Option ℕ) → is_some (or_entry o (entry_of t m)) ≡ true → is_some (or_entry o (entry_of (with_entry t name k) m)) ≡ true
    by (Some n) f = refl
    by None f = entry_stays t name m k f

-- ---- variables among more lines

module _ (program before : List Line) (l : Line) where
  used_last : (name : List ℕ) → HasUse (before ++ l ∷ []) name → HasUse before name ⊎ IsUse name l
  used_last name u = elim (any_split (IsUse name) before (l ∷ []) u) [ inl a ↦ inl a | inr b ↦ elim b [ inl c ↦ inr c | inr d ↦ absurd d ] ]

  pub no_more_variables : (names : List (List ℕ)) → AreVariables program before names → ((name : List ℕ) → IsVariable program name → IsUse name l → IsAmong name names) → AreVariables program (before ++ l ∷ []) names
  no_more_variables names h f = record {
    once = h.once;
    variable = h.variable;
    used = λ n k. any_left (IsUse n) before (l ∷ []) (h.used n k);
    all = λ n v u. elim (used_last n u) [ inl a ↦ h.all n v a | inr b ↦ f n v b ];
  }

  pub one_more_variable : (names : List (List ℕ)) → AreVariables program before names → (s : Symbol) → used_symbol l ≡ Some s → IsVariable program s.name → (IsAmong s.name names → ⊥) → AreVariables program (before ++ l ∷ []) (s.name ∷ names)
  one_more_variable names h s e v never = record {
    once = (never, h.once);
    variable = λ n k. elim k [ inl same ↦ subst (IsVariable program) (sym same) v | inr more ↦ h.variable n more ];
    used = λ n k. elim k [
      | inl same ↦ subst (HasUse (before ++ l ∷ [])) (sym same) (last_use s e)
      | inr more ↦ any_left (IsUse n) before (l ∷ []) (h.used n more)
    ];
    all = λ n w u. elim (used_last n u) [ inl a ↦ inr (h.all n w a) | inr b ↦ inl (use_is l s n e b) ];
  }
    where
      at_end : (ls : List Line) (n : List ℕ) → IsUse n l → HasUse (ls ++ l ∷ []) n
      at_end [] n u = inl u
      at_end (k ∷ ls) n u = inr (at_end ls n u)

      last_use : (x : Symbol) → used_symbol l ≡ Some x → HasUse (before ++ l ∷ []) x.name
      last_use x f = at_end before x.name (x.place, used_is l x f)

-- ---- the walk

-- The symbols that some of a program's lines use have their addresses, where the table has its labels.
pub record Assigned (program before : List Line) (start t : Table) (next : ℕ) : Type 0 where
  pub names : List (List ℕ)
  pub are : AreVariables program before names
  pub next_is : next ≡ 16 + length names
  pub count : length t ≡ length start + length names
  pub labels : (name : List ℕ) (v : ℕ) → StandsBehind program name v → entry_of t name ≡ Some v
  pub found : (name : List ℕ) (v : ℕ) → entry_of t name ≡ Some v → StandsBehind program name v ⊎ (IsAmong name names × HasValue program name v × (v < next))
  pub has : (name : List ℕ) → IsAmong name names → is_some (entry_of t name) ≡ true
  pub used : (name : List ℕ) → HasUse before name → is_some (address_in t name) ≡ true

module _ (program : List Line) (start : Table) where
  begun : Entered program start → Assigned program [] start start 16
  begun h = record {
    names = [];
    are = record { once = tt; variable = λ n k. absurd k; used = λ n k. absurd k; all = λ n v u. u };
    next_is = omega arith;
    count = omega arith;
    labels = h.has;
    found = λ n v e. inl (h.is n v e);
    has = λ n k. absurd k;
    used = λ n k. absurd k;
  }

  module _ (before : List Line) (t : Table) (next : ℕ) (h : Assigned program before start t next) (l : Line) where
    -- the line uses nothing
    quiet : used_symbol l ≡ None → Assigned program (before ++ l ∷ []) start t next
    quiet e = record {
      names = h.names;
      are = no_more_variables program before l h.names h.are (λ n v u. absurd (unused l n e u));
      next_is = h.next_is;
      count = h.count;
      labels = h.labels;
      found = h.found;
      has = h.has;
      used = λ n u. elim (used_last program before l n u) [ inl a ↦ h.used n a | inr b ↦ absurd (unused l n e b) ];
    }

    -- a variable that has an address is among them
    known : (n : List ℕ) → IsVariable program n → is_some (address_in t n) ≡ true → IsAmong n h.names
    known n v e = by (predefined_value n) (entry_of t n) refl refl e
      where
        by : (o r : Option ℕ) → predefined_value n ≡ o → entry_of t n ≡ r → is_some (or_entry o r) ≡ true → IsAmong n h.names
        by (Some k) r is there f = absurd (v.unlisted (k, is))
        by None None is there f = absurd (let bad : ⊥ = cc in bad)
        by None (Some k) is there f = elim (h.found n k there) [ inl s ↦ absurd (v.unlabelled (labelled program n k s)) | inr m ↦ m.0 ]

    -- it uses what has an address
    again : (s : Symbol) → used_symbol l ≡ Some s → is_some (address_in t s.name) ≡ true → Assigned program (before ++ l ∷ []) start t next
    again s e f = record {
      names = h.names;
      are = no_more_variables program before l h.names h.are (λ n v u. known n v (subst (λ (m : List ℕ). is_some (address_in t m) ≡ true) (sym (use_is l s n e u)) f));
      next_is = h.next_is;
      count = h.count;
      labels = h.labels;
      found = h.found;
      has = h.has;
      used = λ n u. elim (used_last program before l n u) [ inl a ↦ h.used n a | inr b ↦ subst (λ (m : List ℕ). is_some (address_in t m) ≡ true) (sym (use_is l s n e b)) f ];
    }

    -- it uses a new symbol
    module _ (rest : List Line) (here : program ≡ before ++ l ∷ rest) (s : Symbol) (e : used_symbol l ≡ Some s) (free : Free t s.name) where
      is_new : IsVariable program s.name
      is_new = record {
        unlisted = λ k. none_some (predefined_value s.name) k.0 free.unlisted k.1;
        unlabelled = λ k. let b = label_of program s.name k in none_some (entry_of t s.name) b.0 free.absent (h.labels s.name b.0 b.1);
      }

      not_yet : IsAmong s.name h.names → ⊥
      not_yet k = none_is (entry_of t s.name) free.absent (h.has s.name k)

      value : HasValue program s.name next
      value = subst (HasValue program s.name) (sym h.next_is) (variable before h.names is_new (record {
        at = s.place;
        behind = rest;
        here = here ∙ ap (λ (z : Line). before ++ z ∷ rest) (used_is l s e);
        first = λ u. not_yet (h.are.all s.name is_new u);
      }) h.are)

      own : is_some (entry_of (with_entry t s.name next) s.name) ≡ true
      own = is_now (entry_of (with_entry t s.name next) s.name) next (entry_own t s.name s.name next refl free.absent)

      wider : (n : List ℕ) (v : ℕ) → StandsBehind program n v ⊎ (IsAmong n h.names × HasValue program n v × (v < next)) → StandsBehind program n v ⊎ (IsAmong n (s.name ∷ h.names) × HasValue program n v × (v < next + 1))
      wider n v (inl k) = inl k
      wider n v (inr k) = let less : v < next + 1 = omega (arith, k.2) in inr (inr k.0, k.1, less)

      counted : length (with_entry t s.name next) ≡ length start + length (s.name ∷ h.names)
      counted = let a = length-append t ((s.name, next) ∷ []) in let c = h.count in omega arith

      fresh : Assigned program (before ++ l ∷ []) start (with_entry t s.name next) (next + 1)
      fresh = record {
        names = s.name ∷ h.names;
        are = one_more_variable program before l h.names h.are s e is_new not_yet;
        next_is = let n = h.next_is in omega arith;
        count = counted;
        labels = λ n v k. entry_kept t s.name n next v (h.labels n v k);
        found = λ n v k. elim (entry_cases t s.name n next v k) [
          | inl old ↦ wider n v (h.found n v old)
          | inr new ↦ let less : v < next + 1 = omega (arith, new.1) in inr (inl new.0, subst (λ (m : List ℕ). HasValue program m v) (sym new.0) (subst (HasValue program s.name) (sym new.1) value), less)
        ];
        has = λ n k. elim k [
          | inl same ↦ subst (λ (m : List ℕ). is_some (entry_of (with_entry t s.name next) m) ≡ true) (sym same) own
          | inr more ↦ entry_stays t s.name n next (h.has n more)
        ];
        used = λ n u. elim (used_last program before l n u) [
          | inl a ↦ address_stays t s.name n next (h.used n a)
          | inr b ↦ addressed (with_entry t s.name next) n (subst (λ (m : List ℕ). is_some (entry_of (with_entry t s.name next) m) ≡ true) (sym (use_is l s n e b)) own)
        ];
      }

  module _ (before : List Line) (l : Line) (rest : List Line) (t : Table) (next : ℕ) (e : program ≡ before ++ l ∷ rest) (h : Assigned program before start t next)
      (go : (u : Table) (m : ℕ) → program ≡ (before ++ l ∷ []) ++ rest → Assigned program (before ++ l ∷ []) start u m → (n : ℕ) × Assigned program program start (variables m u rest) n) where
    on : program ≡ (before ++ l ∷ []) ++ rest
    on = e ∙ sym (append_assoc before (l ∷ []) rest)

    tested : (s : Symbol) → used_symbol l ≡ Some s → (b : Bool) → is_some (address_in t s.name) ≡ b → (n : ℕ) × Assigned program program start (if b then variables next t rest else variables (next + 1) (with_entry t s.name next) rest) n
    tested s f true g = go t next on (again before t next h l s f g)
    tested s f false g = go (with_entry t s.name next) (next + 1) on (fresh before t next h l rest e s f (free_of t s.name g))

    step : (o : Option Symbol) → used_symbol l ≡ o → (n : ℕ) × Assigned program program start (enter_variable o next t (λ n u. variables n u rest)) n
    step None f = go t next on (quiet before t next h l f)
    step (Some s) f = tested s f (is_some (address_in t s.name)) refl

  walk : (before rest : List Line) (t : Table) (next : ℕ) → program ≡ before ++ rest → Assigned program before start t next → (n : ℕ) × Assigned program program start (variables next t rest) n
  walk before [] t next e h = (next, subst (λ (ls : List Line). Assigned program ls start t next) (sym (e ∙ append-nil before)) h)
  walk before (l ∷ rest) t next e h = step before l rest t next e h (λ u m f k. walk (before ++ l ∷ []) rest u m f k) (used_symbol l) refl

  pub assigned : Entered program start → (n : ℕ) × Assigned program program start (variables 16 start program) n
  assigned h = walk [] program start 16 refl (begun h)
