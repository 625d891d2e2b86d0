-- What a reader knows after it has looked at the next token.
use Rattle.std.proofs.Common.{◌≡◌, Bool, true, false, List, [], ◌∷◌, Result, Ok, Err, cond, map, refl, ap, subst, ◌∙◌}
use denote.Bor.{Bor}
use Rattle.std.specs.Prelude.{◌||◌}
use Rattle.grammar.specs.declared.Fault.{Fault}
use Rattle.grammar.specs.declared.Fault.TheVariants.{Grammar}
use Rattle.grammar.specs.declared.ReadError.{ReadError}
use Rattle.grammar.specs.declared.ReadError.TheVariants as errors
use Rattle.grammar.specs.Rules.{mark, word, end, Skip, Leaf, Rules, next, Reads, marked, worded, at_end, Stops, not_mark, not_word, past, not_end}
use Rattle.grammar.specs.Reading.{Because, Halt, memory, fault, Gives, Parses, Passes, ParsesBy, PassesBy, Ends, word_at, mark_at, end_at, taken_if}

abbrev ok : {A : Type 0} → A → Result A Fault
ok x = Ok x

ok_is : {A : Type 0} (x y : A) → ok x ≡ ok y → x ≡ y
ok_is x y e = cc

-- a fault that stops a part stops the whole
pub halt : {P Q : Fault → Type 0} {e : ReadError} → ((f : Fault) → P f → Q f) → Halt P e → Halt Q e
halt h memory = memory
halt h (fault c) = fault (h _ c)

because : {P Q : Fault → Type 0} (e : ReadError) → ((f : Fault) → P f → Q f) → Because P e → Because Q e
because errors.Memory h b = tt
because (errors.Fault f) h b = h f b

module _ {T S N V : Type 0} (g : Rules T S N V) {is : T → Bool} {check : S → T → Result S Fault} {value : T → V} where
  word_reads_at : (s : S) (t : T) (ts : List T) (v : V) (s' : S) (us : List T) (b : Bool) (r : Result S Fault) → is t ≡ b → check s t ≡ r → cond b (taken_if r (value t) ts) (Err (Grammar (g.place t))) ≡ Ok (v, s', us) → Reads T S N V g s (word is check value) (t ∷ ts) (Leaf v) s' us
  word_reads_at s t ts v s' us false r i c e = absurd cc
  word_reads_at s t ts v s' us true (Err f) i c e = absurd cc
  word_reads_at s t ts v s' us true (Ok s1) i c e =
      subst (λ (z : V × S × List T). Reads T S N V g s (word is check value) (t ∷ ts) (Leaf z.0) z.1 z.2) (ok_is {A = V × S × List T} (value t, s1, ts) (v, s', us) e) (worded i c)

  pub word_reads : (s : S) (ts : List T) (v : V) (s' : S) (us : List T) → word_at g is check value s ts ≡ Ok (v, s', us) → Reads T S N V g s (word is check value) ts (Leaf v) s' us
  word_reads s [] v s' us e = absurd cc
  word_reads s (t ∷ ts) v s' us e = word_reads_at s t ts v s' us (is t) (check s t) refl refl e

  word_stops_at : (s : S) (t : T) (ts : List T) (f : Fault) (b : Bool) (r : Result S Fault) → is t ≡ b → check s t ≡ r → cond b (taken_if r (value t) ts) (Err (Grammar (g.place t))) ≡ Err f → Stops T S N V g s (word is check value) (t ∷ ts) f
  word_stops_at s t ts f false r i c e = let same : Grammar (g.place t) ≡ f = cc in subst (λ (x : Fault). Stops T S N V g s (word is check value) (t ∷ ts) x) same (not_word i)
  word_stops_at s t ts f true (Ok s1) i c e = absurd cc
  word_stops_at s t ts f true (Err d) i c e = let same : d ≡ f = cc in past i (c ∙ ap Err same)

  pub word_stops : (s : S) (ts : List T) (f : Fault) → word_at g is check value s ts ≡ Err f → Stops T S N V g s (word is check value) ts f
  word_stops s [] f e = let same : Grammar g.ending ≡ f = cc in subst (λ (x : Fault). Stops T S N V g s (word is check value) [] x) same (not_word refl)
  word_stops s (t ∷ ts) f e = word_stops_at s t ts f (is t) (check s t) refl refl e

module _ {T S N V : Type 0} (g : Rules T S N V) {v : V} {is : T → Bool} where
  mark_reads_at : (s : S) (t : T) (ts us : List T) (b : Bool) → is t ≡ b → cond b (Ok ts) (Err (Grammar (g.place t))) ≡ Ok us → Reads T S N V g s (mark v is) (t ∷ ts) Skip s us
  mark_reads_at s t ts us false i e = absurd cc
  mark_reads_at s t ts us true i e = let same : ts ≡ us = cc in subst (λ (x : List T). Reads T S N V g s (mark v is) (t ∷ ts) Skip s x) same (marked i)

  pub mark_reads : (s : S) (ts us : List T) → mark_at g is ts ≡ Ok us → Reads T S N V g s (mark v is) ts Skip s us
  mark_reads s [] us e = absurd cc
  mark_reads s (t ∷ ts) us e = mark_reads_at s t ts us (is t) refl e

  mark_stops_at : (s : S) (t : T) (ts : List T) (f : Fault) (b : Bool) → is t ≡ b → cond b (Ok ts) (Err (Grammar (g.place t))) ≡ Err f → Stops T S N V g s (mark v is) (t ∷ ts) f
  mark_stops_at s t ts f false i e = let same : Grammar (g.place t) ≡ f = cc in subst (λ (x : Fault). Stops T S N V g s (mark v is) (t ∷ ts) x) same (not_mark i)
  mark_stops_at s t ts f true i e = absurd cc

  pub mark_stops : (s : S) (ts : List T) (f : Fault) → mark_at g is ts ≡ Err f → Stops T S N V g s (mark v is) ts f
  mark_stops s [] f e = let same : Grammar g.ending ≡ f = cc in subst (λ (x : Fault). Stops T S N V g s (mark v is) [] x) same (not_mark refl)
  mark_stops s (t ∷ ts) f e = mark_stops_at s t ts f (is t) refl e

module _ {T S N V : Type 0} (g : Rules T S N V) (is : T → Bool) (check : S → T → Result S Fault) (value : T → V) where
  word_halts : (s : S) (ts : List T) (e : ReadError) → Because (λ f. word_at g is check value s ts ≡ Err f) e → Halt (Stops T S N V g s (word is check value) ts) e
  word_halts s ts errors.Memory b = memory
  word_halts s ts (errors.Fault f) b = fault (word_stops g s ts f b)

  pub Parses-word : (after : V → S) (s : S) (ts : List T) (r : Result (V × Bor (List T)) ReadError) → Gives (λ x. (x.0, after x.0, x.1.now)) r (word_at g is check value s ts) → Parses g (word is check value) Leaf after s ts r
  Parses-word after s ts (Ok x) h = word_reads g s ts x.0 (after x.0) x.1.now h
  Parses-word after s ts (Err e) h = word_halts s ts e h

  pub Parses-read : {X : Type 0} (view : X → V) (after : X → S) (s : S) (ts : List T) (r : Result (X × Bor (List T)) ReadError) → Gives (λ x. (view x.0, after x.0, x.1.now)) r (word_at g is check value s ts) → Parses g (word is check value) (λ x. Leaf (view x)) after s ts r
  Parses-read view after s ts (Ok x) h = word_reads g s ts (view x.0) (after x.0) x.1.now h
  Parses-read view after s ts (Err e) h = word_halts s ts e h

module _ {T S N V : Type 0} (g : Rules T S N V) (v : V) (is : T → Bool) where
  mark_halts : (s : S) (ts : List T) (e : ReadError) → Because (λ f. mark_at g is ts ≡ Err f) e → Halt (Stops T S N V g s (mark v is) ts) e
  mark_halts s ts errors.Memory b = memory
  mark_halts s ts (errors.Fault f) b = fault (mark_stops g s ts f b)

  pub Passes-mark : (s : S) (ts : List T) (r : Result (Bor (List T)) ReadError) → Gives (λ x. x.now) r (mark_at g is ts) → Passes g (mark v is) s ts r
  Passes-mark s ts (Ok x) h = mark_reads g s ts x.now h
  Passes-mark s ts (Err e) h = mark_halts s ts e h

module _ {T S N V : Type 0} (g : Rules T S N V) where
  end_reads : (s : S) (ts : List T) (u : Unit {0}) → end_at g ts ≡ Ok u → Reads T S N V g s end ts Skip s []
  end_reads s [] u e = at_end
  end_reads s (t ∷ ts) u e = absurd cc

  end_stops : (s : S) (ts : List T) (f : Fault) → end_at g ts ≡ Err f → Stops T S N V g s end ts f
  end_stops s [] f e = absurd cc
  end_stops s (t ∷ ts) f e = let same : Grammar (g.place t) ≡ f = cc in subst (λ (x : Fault). Stops T S N V g s end (t ∷ ts) x) same not_end

  end_halts : (s : S) (ts : List T) (e : ReadError) → Because (λ f. end_at g ts ≡ Err f) e → Halt (Stops T S N V g s end ts) e
  end_halts s ts errors.Memory b = memory
  end_halts s ts (errors.Fault f) b = fault (end_stops s ts f b)

  pub Ends-end : (s : S) (ts : List T) (r : Result (Unit {0}) ReadError) → Gives (λ u. tt) r (end_at g ts) → Ends g s ts r
  Ends-end s ts (Ok u) h = end_reads s ts tt h
  Ends-end s ts (Err e) h = end_halts s ts e h

-- a choice is entered where one of its parts is
pub next_left : {T : Type 0} (p q : T → Bool) (ts : List T) → next p ts ≡ true → next (λ t. p t || q t) ts ≡ true
next_left p q [] e = absurd cc
next_left p q (t ∷ ts) e = ap (λ (b : Bool). b || q t) e

pub next_right : {T : Type 0} (p q : T → Bool) (ts : List T) (b : Bool) → next p ts ≡ false → next q ts ≡ b → next (λ t. p t || q t) ts ≡ b
next_right p q [] b e f = f
next_right p q (t ∷ ts) b e f = ap (λ (c : Bool). c || q t) e ∙ f

module _ {C T S N V : Type 0} (view : C → T) (g : Rules T S N V) (v : V) (is : T → Bool) where
  pub PassesBy-mark : (s : S) (ts : List C) (r : Result (Bor (List C)) ReadError) → Gives (λ x. map view x.now) r (mark_at g is (map view ts)) → PassesBy view g (mark v is) s ts r
  PassesBy-mark s ts (Ok x) h = mark_reads g s (map view ts) (map view x.now) h
  PassesBy-mark s ts (Err e) h = mark_halts g v is s (map view ts) e h

module _ {C T S N V X : Type 0} (view : C → T) (g : Rules T S N V) (is : T → Bool) (check : S → T → Result S Fault) (value : T → V) (told : X → V) (after : X → S) where
  pub ParsesBy-word : (s : S) (ts : List C) (r : Result (X × Bor (List C)) ReadError) → Gives (λ x. (told x.0, after x.0, map view x.1.now)) r (word_at g is check value s (map view ts)) → ParsesBy view g (word is check value) (λ x. Leaf (told x)) after s ts r
  ParsesBy-word s ts (Ok x) h = word_reads g s (map view ts) (told x.0) (after x.0) (map view x.1.now) h
  ParsesBy-word s ts (Err e) h = word_halts g is check value s (map view ts) e h
