-- The parts of a computation as they are written: how each is cut into tokens, and what those spell.
use Rattle.std.proofs.Common.{◌≡◌, ℕ, suc, zero, ◌<◌, ◌≤◌, ◌%◌, Bool, true, false, cond, List, [], ◌∷◌, ◌++◌, Option, Some, None, Ok, is_some, length, refl, sym, ap, subst, ◌∙◌, arith, eqb-true}
use Rattle.std.specs.Prelude.{◌&&◌, nat_eq}
use Rattle.scan_text.specs.declared.Place.{Place}
use Rattle.scan_text.specs.Text.{walk}
use Rattle.grammar.specs.Rules.{Skip, Leaf, Pair, Present, next, option, marked, worded, both, left, passed, taken}
use Rattle.hack_asm.specs.declared.token.Kind.TheVariants.{Sign, Symbol}
use Rattle.hack_asm.specs.declared.token.Letter.{Letter}
use Rattle.hack_asm.specs.declared.token.Letter.TheVariants.{Zero, One, A, D, M}
use Rattle.hack_asm.specs.declared.token.Operator.{Operator}
use Rattle.hack_asm.specs.declared.token.Operator.TheVariants.{Plus, Minus, And, Or}
use Rattle.hack_asm.specs.declared.token.Role.{Role}
use Rattle.hack_asm.specs.declared.token.Role.TheVariants as role
use Rattle.hack_asm.specs.declared.lines.Prefix.{Prefix}
use Rattle.hack_asm.specs.declared.lines.Prefix.TheVariants as prefix
use Rattle.hack_asm.specs.declared.lines.Comp.{Comp}
use Rattle.hack_asm.specs.declared.lines.Comp.TheVariants as comps
use Rattle.hack_asm.specs.declared.lines.Dest.{Dest}
use Rattle.hack_asm.specs.declared.lines.Dest.TheVariants as dests
use Rattle.hack_asm.specs.declared.words.Before.{Before}
use Rattle.hack_asm.specs.declared.words.Before.TheVariants.{Sum, Join}
use Rattle.hack_asm.specs.Roles.{role_of}
use Rattle.hack_asm.specs.Tokens.{Word, made_word, word_of, line_end_token, piece}
use Rattle.hack_asm.specs.Grammar.{Said, Letter', assembly, is_sign, is_line_end, jump_role, role_said, is_register, is_not_zero, some_letter, maybe_behind, after_letter, unary, comp, operation, assignment_part, jump}
use Rattle.hack_asm.specs.Trees.{comp_tree, unary_tree, assigned_tree, operation_tree, jump_tree}
use Rattle.hack_asm.specs.Inner.Before.{letter_next, operator_next, operator_by, shift_next, assigns_next, several_next, several_by, suits}
use Rattle.hack_asm.specs.Comps.{Texts, computations, entry, or_nothing, text_in, meaning}
use Rattle.hack_asm.specs.Program.{register_bit, dest_bits, jump_bits}
use Rattle.hack_asm.specs.Written.{destinations, jumps}
use Rattle.grammar.proofs.Entered.{skip, entered}
use Rattle.hack_asm.proofs.Letters.{R, with_letter, without_letter, operates, operator_enters, no_operator, operation_behind, operation_behind_enters, shift_behind, none_behind, to_register, continued_after, none_after, several_assigned, bare_assigned}
use Rattle.hack_asm.proofs.WrittenText.{the_cut, token_cut, Apart, letter_byte, letter_token, letter_cut, sign_token, operator_byte, operator_cut, operator_apart, shift_byte, shift_token, shift_cut, shift_apart}

-- a computation may begin with the next token, and no other line
pub record Begins (ts : List Word) : Type 0 where
  pub blank : next is_line_end ts ≡ false
  pub label : next (is_sign 40) ts ≡ false
  pub address : next (is_sign 64) ts ≡ false

-- a computation does not go on with the next token
pub record Shut (ts : List Word) : Type 0 where
  pub operators : (x : Letter) → operator_next x ts ≡ None
  pub shifts : (x : Letter) → shift_next x ts ≡ None
  pub equals : (x : Letter) → assigns_next x ts ≡ None

-- Computations

pub record Computes (word : ℕ) (text : List ℕ) : Type 0 where
  pub spelled : Comp
  pub tokens : Place → List Word → List Word
  pub cut : (last : Option Word) (at : Place) (bs : List ℕ) (ts : List Word) → Apart bs → ((l : Option Word) → the_cut l (walk at text) bs ≡ Ok ts) → the_cut last at (text ++ bs) ≡ Ok (tokens at ts)
  pub bare : (end at : Place) (us : List Word) → Shut us → R end assignment_part (tokens at us) (assigned_tree (dests.Register None) spelled) us
  pub after : (end at : Place) (us : List Word) → Shut us → R end comp (tokens at us) (comp_tree spelled) us
  pub begins : (at : Place) (us : List Word) → Begins (tokens at us)
  pub short : length text ≤ 3
  pub row_is : meaning spelled ≡ word

letter_comes : (x : Letter) (at : Place) (us : List Word) → letter_next (letter_token x at ∷ us) ≡ Some (x, us)
letter_comes Zero at us = refl
letter_comes One at us = refl
letter_comes A at us = refl
letter_comes D at us = refl
letter_comes M at us = refl

letter_alone : (x : Letter) (at : Place) (us : List Word) → several_next (letter_token x at ∷ us) ≡ None
letter_alone Zero at us = refl
letter_alone One at us = refl
letter_alone A at us = refl
letter_alone D at us = refl
letter_alone M at us = refl

letter_begins : (x : Letter) (at : Place) (us : List Word) → Begins (letter_token x at ∷ us)
letter_begins Zero at us = record { blank = refl; label = refl; address = refl }
letter_begins One at us = record { blank = refl; label = refl; address = refl }
letter_begins A at us = record { blank = refl; label = refl; address = refl }
letter_begins D at us = record { blank = refl; label = refl; address = refl }
letter_begins M at us = record { blank = refl; label = refl; address = refl }

letter_reads : (p : Letter → Bool) (y : Letter) (end at : Place) (us : List Word) → p y ≡ true → R end (some_letter p) (letter_token y at ∷ us) (Leaf (Letter' y)) us
letter_reads p Zero end at us h = worded h refl
letter_reads p One end at us h = worded h refl
letter_reads p A end at us h = worded h refl
letter_reads p D end at us h = worded h refl
letter_reads p M end at us h = worded h refl

-- no `=` comes
no_equals : (x : Letter) (t : Word) (ts : List Word) → is_sign 61 t ≡ false → assigns_next x (t ∷ ts) ≡ None
no_equals Zero t ts h = refl
no_equals One t ts h = refl
no_equals A t ts h = ap (λ (b : Bool). cond b (Some ts) None) h
no_equals D t ts h = ap (λ (b : Bool). cond b (Some ts) None) h
no_equals M t ts h = ap (λ (b : Bool). cond b (Some ts) None) h

-- a letter alone
alone : (x : Letter) → Computes (meaning (comps.Alone x)) (letter_byte x ∷ [])
alone x = record {
  spelled = comps.Alone x;
  tokens = λ at ts. letter_token x at ∷ ts;
  cut = λ last at bs ts a e. letter_cut x bs last at ts a e;
  bare = λ end at us s. bare_assigned end (letter_alone x at us) (with_letter end after_letter unary (letter_comes x at us) (none_after end x (s.equals x) (none_behind end x us (no_operator end x us (s.operators x)) (s.shifts x))));
  after = λ end at us s. with_letter end maybe_behind unary (letter_comes x at us) (passed (none_behind end x us (no_operator end x us (s.operators x)) (s.shifts x)));
  begins = λ at us. letter_begins x at us;
  short = omega arith;
  row_is = refl;
}

operator_comes : (x : Letter) (op : Operator) (b : Before) (at : Place) (us : List Word) → operator_by x (role.Operator op) us ≡ Some (op, b, us) → operator_next x (sign_token (operator_byte op) at ∷ us) ≡ Some (op, b, us)
operator_comes x Plus b at us h = h
operator_comes x Minus b at us h = h
operator_comes x And b at us h = h
operator_comes x Or b at us h = h

operator_no_equals : (x : Letter) (op : Operator) (at : Place) (us : List Word) → assigns_next x (sign_token (operator_byte op) at ∷ us) ≡ None
operator_no_equals x Plus at us = no_equals x (sign_token 43 at) us refl
operator_no_equals x Minus at us = no_equals x (sign_token 45 at) us refl
operator_no_equals x And at us = no_equals x (sign_token 38 at) us refl
operator_no_equals x Or at us = no_equals x (sign_token 124 at) us refl

-- two letters with an operator between them
abbrev second_at : Letter → Place → Place
second_at x at = walk at (letter_byte x ∷ [])

abbrev third_at : Letter → Operator → Place → Place
third_at x op at = walk (second_at x at) (operator_byte op ∷ [])

abbrev behind_first : Letter → Operator → Letter → Place → List Word → List Word
behind_first x op y at ts = sign_token (operator_byte op) (second_at x at) ∷ letter_token y (third_at x op at) ∷ ts

operation_reads : (x : Letter) (op : Operator) (y : Letter) (b : Before) → ((us : List Word) → operator_by x (role.Operator op) us ≡ Some (op, b, us)) → suits b y ≡ true → (end at : Place) (us : List Word) → R end (operation x) (behind_first x op y at us) (operation_tree op y) us
operation_reads x op y b h s end at us =
    operates end x op b _ (letter_token y (third_at x op at) ∷ us) us y (operator_comes x op b (second_at x at) (letter_token y (third_at x op at) ∷ us) (h _)) (letter_reads (suits b) y end (third_at x op at) us s)

pair : (x : Letter) (op : Operator) (y : Letter) (b : Before) → ((us : List Word) → operator_by x (role.Operator op) us ≡ Some (op, b, us)) → suits b y ≡ true → Computes (meaning (comps.Pair x op y)) (letter_byte x ∷ operator_byte op ∷ letter_byte y ∷ [])
pair x op y b h s = record {
  spelled = comps.Pair x op y;
  tokens = λ at ts. letter_token x at ∷ behind_first x op y at ts;
  cut = λ last at bs ts a e.
      letter_cut x (operator_byte op ∷ letter_byte y ∷ bs) last at _ (operator_apart op (letter_byte y ∷ bs))
      (λ l. operator_cut op (letter_byte y ∷ bs) l (second_at x at) _
      (λ k. letter_cut y bs k (third_at x op at) ts a e));
  bare = λ end at us t. bare_assigned end (letter_alone x at _) (with_letter end after_letter unary (letter_comes x at _) (continued_after end x (operator_no_equals x op (second_at x at) _) (operation_behind end x (operation_reads x op y b h s end at us))));
  after = λ end at us t. with_letter end maybe_behind unary (letter_comes x at _) (taken (operation_behind_enters end x (behind_first x op y at us) (operator_enters end x op b (behind_first x op y at us) _ (operator_comes x op b (second_at x at) (letter_token y (third_at x op at) ∷ us) (h _)))) (operation_behind end x (operation_reads x op y b h s end at us)));
  begins = λ at us. letter_begins x at _;
  short = omega arith;
  row_is = refl;
}

-- a register and a shift
no_operator_shift : (x : Letter) (side : Bool) (at : Place) (us : List Word) → operator_next x (shift_token side at ∷ us) ≡ None
no_operator_shift x true at us = refl
no_operator_shift x false at us = refl

no_equals_shift : (x : Letter) (side : Bool) (at : Place) (us : List Word) → assigns_next x (shift_token side at ∷ us) ≡ None
no_equals_shift x true at us = no_equals x (shift_token true at) us refl
no_equals_shift x false at us = no_equals x (shift_token false at) us refl

shift_comes : (x : Letter) (side : Bool) (at : Place) (us : List Word) → is_register x ≡ true → shift_next x (shift_token side at ∷ us) ≡ Some (side, us)
shift_comes x true at us r = ap (λ (b : Bool). cond {A = Option (Bool × List Word)} b (Some (true, us)) None) r
shift_comes x false at us r = ap (λ (b : Bool). cond {A = Option (Bool × List Word)} b (Some (false, us)) None) r

shifted : (x : Letter) (side : Bool) → is_register x ≡ true → Computes (meaning (comps.Shifted x side)) (letter_byte x ∷ shift_byte side ∷ shift_byte side ∷ [])
shifted x side r =
    let reads = λ (end at : Place) (us : List Word). shift_behind end x (shift_token side (second_at x at) ∷ us) us side (no_operator end x (shift_token side (second_at x at) ∷ us) (no_operator_shift x side (second_at x at) us)) (shift_comes x side (second_at x at) us r) in
    record {
      spelled = comps.Shifted x side;
      tokens = λ at ts. letter_token x at ∷ shift_token side (second_at x at) ∷ ts;
      cut = λ last at bs ts a e.
          letter_cut x (shift_byte side ∷ shift_byte side ∷ bs) last at _ (shift_apart side (shift_byte side ∷ bs))
          (λ l. shift_cut side bs l (second_at x at) ts e);
      bare = λ end at us s. bare_assigned end (letter_alone x at _) (with_letter end after_letter unary (letter_comes x at _) (continued_after end x (no_equals_shift x side (second_at x at) us) (reads end at us)));
      after = λ end at us s. with_letter end maybe_behind unary (letter_comes x at _) (taken (entered Word (Unit {0}) (Unit {0}) Said (assembly end) (reads end at us) refl) (reads end at us));
      begins = λ at us. letter_begins x at _;
      short = omega arith;
      row_is = refl;
    }

-- a letter after `-` or `!`
abbrev prefix_byte : Prefix → ℕ
prefix_byte prefix.Minus = 45
prefix_byte prefix.Not = 33

abbrev may_follow : Prefix → Letter → Bool
may_follow prefix.Minus y = is_not_zero y
may_follow prefix.Not y = is_register y

prefix_piece : (p : Prefix) (bs : List ℕ) → piece (prefix_byte p ∷ bs) ≡ word_of (Sign (prefix_byte p)) 0 (prefix_byte p ∷ bs)
prefix_piece prefix.Minus bs = refl
prefix_piece prefix.Not bs = refl

prefix_no_letter : (p : Prefix) (at : Place) (us : List Word) → letter_next (sign_token (prefix_byte p) at ∷ us) ≡ None
prefix_no_letter prefix.Minus at us = refl
prefix_no_letter prefix.Not at us = refl

prefix_alone : (p : Prefix) (at : Place) (us : List Word) → several_next (sign_token (prefix_byte p) at ∷ us) ≡ None
prefix_alone prefix.Minus at us = refl
prefix_alone prefix.Not at us = refl

prefix_begins : (p : Prefix) (at : Place) (us : List Word) → Begins (sign_token (prefix_byte p) at ∷ us)
prefix_begins prefix.Minus at us = record { blank = refl; label = refl; address = refl }
prefix_begins prefix.Not at us = record { blank = refl; label = refl; address = refl }

unary_reads : (p : Prefix) (y : Letter) (end at next_at : Place) (us : List Word) → may_follow p y ≡ true → R end unary (sign_token (prefix_byte p) at ∷ letter_token y next_at ∷ us) (unary_tree p y) us
unary_reads prefix.Minus y end at next_at us h = left refl (both (marked refl) (letter_reads is_not_zero y end next_at us h))
unary_reads prefix.Not y end at next_at us h = skip refl refl (both (marked refl) (letter_reads is_register y end next_at us h))

under : (p : Prefix) (y : Letter) → may_follow p y ≡ true → Computes (meaning (comps.Under p y)) (prefix_byte p ∷ letter_byte y ∷ [])
under p y h = record {
  spelled = comps.Under p y;
  tokens = λ at ts. sign_token (prefix_byte p) at ∷ letter_token y (walk at (prefix_byte p ∷ [])) ∷ ts;
  cut = λ last at bs ts a e.
      token_cut (prefix_byte p) [] (letter_byte y ∷ bs) (Sign (prefix_byte p)) last at _ (prefix_piece p (letter_byte y ∷ bs))
      (λ l. letter_cut y bs l (walk at (prefix_byte p ∷ [])) ts a e);
  bare = λ end at us s. bare_assigned end (prefix_alone p at _) (without_letter end after_letter unary (prefix_no_letter p at _) refl (unary_reads p y end at _ us h));
  after = λ end at us s. without_letter end maybe_behind unary (prefix_no_letter p at _) refl (unary_reads p y end at _ us h);
  begins = λ at us. prefix_begins p at _;
  short = omega arith;
  row_is = refl;
}

-- this holds of each row of a table
abbrev Hold : (ℕ → List ℕ → Type 0) → Texts → Type 0
Hold P [] = Unit {0}
Hold P (row ∷ rows) = P row.0 row.1 × Hold P rows

in_row : (P : ℕ → List ℕ → Type 0) (n : ℕ) (text : List ℕ) (rows : Texts) (bits : ℕ) (b : Bool) → nat_eq bits n ≡ b → P n text → (is_some (entry rows bits) ≡ true → P bits (text_in rows bits)) → is_some (cond b (Some text) (entry rows bits)) ≡ true → P bits (or_nothing (cond b (Some text) (entry rows bits)))
in_row P n text rows bits true e p go h = subst (λ (k : ℕ). P k text) (sym (eqb-true bits n e)) p
in_row P n text rows bits false e p go h = go h

in_table : (P : ℕ → List ℕ → Type 0) (rows : Texts) (bits : ℕ) → Hold P rows → is_some (entry rows bits) ≡ true → P bits (text_in rows bits)
in_table P [] bits p h = absurd cc
in_table P (row ∷ rows) bits p h = in_row P row.0 row.1 rows bits (nat_eq bits row.0) refl p.0 (in_table P rows bits p.1) h

rows_compute : Hold Computes computations
rows_compute = (
  alone Zero,
  (
    alone One,
    (
      under prefix.Minus One refl,
      (
        alone D,
        (
          alone A,
          (
            under prefix.Not D refl,
            (
              under prefix.Not A refl,
              (
                under prefix.Minus D refl,
                (
                  under prefix.Minus A refl,
                  (
                    pair D Plus One (Sum D) (λ us. refl) refl,
                    (
                      pair A Plus One (Sum A) (λ us. refl) refl,
                      (
                        pair D Minus One (Sum D) (λ us. refl) refl,
                        (
                          pair A Minus One (Sum A) (λ us. refl) refl,
                          (
                            pair D Plus A (Sum D) (λ us. refl) refl,
                            (
                              pair D Minus A (Sum D) (λ us. refl) refl,
                              (
                                pair A Minus D (Sum A) (λ us. refl) refl,
                                (
                                  pair D And A (Join D) (λ us. refl) refl,
                                  (
                                    pair D Or A (Join D) (λ us. refl) refl,
                                    (
                                      alone M,
                                      (
                                        under prefix.Not M refl,
                                        (
                                          under prefix.Minus M refl,
                                          (
                                            pair M Plus One (Sum M) (λ us. refl) refl,
                                            (
                                              pair M Minus One (Sum M) (λ us. refl) refl,
                                              (
                                                pair D Plus M (Sum D) (λ us. refl) refl,
                                                (
                                                  pair D Minus M (Sum D) (λ us. refl) refl,
                                                  (
                                                    pair M Minus D (Sum M) (λ us. refl) refl,
                                                    (
                                                      pair D And M (Join D) (λ us. refl) refl,
                                                      (
                                                        pair D Or M (Join D) (λ us. refl) refl,
                                                        (
                                                          shifted D true refl,
                                                          (
                                                            shifted D false refl,
                                                            (
                                                              shifted A true refl,
                                                              (
                                                                shifted A false refl,
                                                                (
                                                                  shifted M true refl,
                                                                  (
                                                                    shifted M false refl,
                                                                    tt,
                                                                  ),
                                                                ),
                                                              ),
                                                            ),
                                                          ),
                                                        ),
                                                      ),
                                                    ),
                                                  ),
                                                ),
                                              ),
                                            ),
                                          ),
                                        ),
                                      ),
                                    ),
                                  ),
                                ),
                              ),
                            ),
                          ),
                        ),
                      ),
                    ),
                  ),
                ),
              ),
            ),
          ),
        ),
      ),
    ),
  ),
)

pub computes : (word : ℕ) → is_some (entry computations word) ≡ true → Computes word (text_in computations word)
computes word h = in_table Computes computations word rows_compute h

below_eight : (P : ℕ → Type 0) → P 0 → P 1 → P 2 → P 3 → P 4 → P 5 → P 6 → P 7 → (n : ℕ) → n < 8 → P n
below_eight P a b c d e f g h zero lt = a
below_eight P a b c d e f g h (suc zero) lt = b
below_eight P a b c d e f g h (suc (suc zero)) lt = c
below_eight P a b c d e f g h (suc (suc (suc zero))) lt = d
below_eight P a b c d e f g h (suc (suc (suc (suc zero)))) lt = e
below_eight P a b c d e f g h (suc (suc (suc (suc (suc zero))))) lt = f
below_eight P a b c d e f g h (suc (suc (suc (suc (suc (suc zero)))))) lt = g
below_eight P a b c d e f g h (suc (suc (suc (suc (suc (suc (suc zero))))))) lt = h
below_eight P a b c d e f g h (suc (suc (suc (suc (suc (suc (suc (suc n)))))))) lt = absurd (omega (arith, lt))

-- Destinations

pub record Goes (bits : ℕ) (text : List ℕ) : Type 0 where
  pub spelled : Dest
  pub tokens : Place → List Word → List Word
  pub cut : (last : Option Word) (at : Place) (bs : List ℕ) (ts : List Word) → ((l : Option Word) → the_cut l (walk at text) bs ≡ Ok ts) → the_cut last at (text ++ bs) ≡ Ok (tokens at ts)
  pub reads : (end at : Place) (c : Comp) (us vs : List Word) → R end assignment_part us (assigned_tree (dests.Register None) c) vs → R end comp us (comp_tree c) vs → R end assignment_part (tokens at us) (assigned_tree spelled c) vs
  pub begins : (at : Place) (us : List Word) → Begins us → Begins (tokens at us)
  pub short : length text ≤ 4
  pub bits_are : dest_bits spelled ≡ bits

nowhere : Goes 0 []
nowhere = record {
  spelled = dests.Register None;
  tokens = λ at ts. ts;
  cut = λ last at bs ts e. e last;
  reads = λ end at c us vs p q. p;
  begins = λ at us b. b;
  short = omega arith;
  bits_are = refl;
}

equals_apart : (bs : List ℕ) → Apart (61 ∷ bs)
equals_apart bs = record { symbol = refl; number = refl }

to_one : (x : Letter) → is_register x ≡ true → Goes (register_bit x) (letter_byte x ∷ 61 ∷ [])
to_one x r = record {
  spelled = dests.Register (Some x);
  tokens = λ at ts. letter_token x at ∷ sign_token 61 (walk at (letter_byte x ∷ [])) ∷ ts;
  cut = λ last at bs ts e.
      letter_cut x (61 ∷ bs) last at _ (equals_apart bs)
      (λ l. token_cut 61 [] bs (Sign 61) l (walk at (letter_byte x ∷ [])) ts refl e);
  reads = λ end at c us vs p q. bare_assigned end (letter_alone x at _) (with_letter end after_letter unary (letter_comes x at _) (to_register end x (ap (λ (b : Bool). cond (b && true) (Some us) None) r) q));
  begins = λ at us b. letter_begins x at _;
  short = omega arith;
  bits_are = refl;
}

to_several : (b : ℕ) (xs : List ℕ) (n : ℕ) → ((bs : List ℕ) → piece (b ∷ (xs ++ 61 ∷ bs)) ≡ word_of Symbol (length xs) (b ∷ (xs ++ 61 ∷ bs))) → ((bs : List ℕ) → (xs ++ 61 ∷ []) ++ bs ≡ xs ++ 61 ∷ bs) → ((at : Place) → walk at (b ∷ (xs ++ 61 ∷ [])) ≡ walk (walk at (b ∷ xs)) (61 ∷ [])) → role_of (b ∷ xs) ≡ role.Several n → n % 8 ≡ n → length xs ≤ 2 → length (xs ++ 61 ∷ []) ≤ 3 → Goes n (b ∷ (xs ++ 61 ∷ []))
to_several b xs n piece_is bytes places role_is small few size = record {
  spelled = dests.Several n;
  tokens = λ at ts. made_word Symbol (b ∷ xs) at ∷ sign_token 61 (walk at (b ∷ xs)) ∷ ts;
  cut = λ last at bs ts e.
      let whole : the_cut last at (b ∷ (xs ++ 61 ∷ bs)) ≡ Ok (made_word Symbol (b ∷ xs) at ∷ sign_token 61 (walk at (b ∷ xs)) ∷ ts) =
      token_cut b xs (61 ∷ bs) Symbol last at _ (piece_is bs)
      (λ l. token_cut 61 [] bs (Sign 61) l (walk at (b ∷ xs)) ts refl (λ k. subst (λ (p : Place). the_cut k p bs ≡ Ok ts) (places at) (e k))) in
      ap (λ (l : List ℕ). the_cut last at (b ∷ l)) (bytes bs) ∙ whole;
  reads = λ end at c us vs p q. several_assigned end (ap (λ (r : Role). several_by r (sign_token 61 (walk at (b ∷ xs)) ∷ us)) role_is) (both (marked refl) q);
  begins = λ at us h. record { blank = refl; label = refl; address = refl };
  short = omega (arith, size);
  bits_are = small;
}

pub goes : (bits : ℕ) → bits < 8 → Goes bits (text_in destinations bits)
goes bits h = below_eight (λ n. Goes n (text_in destinations n))
    nowhere (to_one M refl) (to_one D refl)
    (to_several 68 (77 ∷ []) 3 (λ bs. refl) (λ bs. refl) (λ at. refl) refl refl (omega arith) (omega arith))
    (to_one A refl)
    (to_several 65 (77 ∷ []) 5 (λ bs. refl) (λ bs. refl) (λ at. refl) refl refl (omega arith) (omega arith))
    (to_several 65 (68 ∷ []) 6 (λ bs. refl) (λ bs. refl) (λ at. refl) refl refl (omega arith) (omega arith))
    (to_several 65 (68 ∷ 77 ∷ []) 7 (λ bs. refl) (λ bs. refl) (λ at. refl) refl refl (omega arith) (omega arith))
    bits h

-- Jumps

pub record Jumps (bits : ℕ) (text : List ℕ) : Type 0 where
  pub spelled : Option ℕ
  pub tokens : Place → List Word → List Word
  pub apart : (bs : List ℕ) → Apart (text ++ 10 ∷ bs)
  pub cut : (last : Option Word) (at : Place) (bs : List ℕ) (ts : List Word) → ((l : Option Word) → the_cut l (walk at text) (10 ∷ bs) ≡ Ok ts) → the_cut last at (text ++ 10 ∷ bs) ≡ Ok (tokens at ts)
  pub shut : (at ended_at : Place) (us : List Word) → Shut (tokens at (line_end_token ended_at ∷ us))
  pub reads : (end at ended_at : Place) (us : List Word) → R end (option jump) (tokens at (line_end_token ended_at ∷ us)) (jump_tree spelled) (line_end_token ended_at ∷ us)
  pub short : length text ≤ 4
  pub bits_are : jump_bits spelled ≡ bits

no_jump : Jumps 0 []
no_jump = record {
  spelled = None;
  tokens = λ at ts. ts;
  apart = λ bs. record { symbol = refl; number = refl };
  cut = λ last at bs ts e. e last;
  shut = λ at ended_at us. record { operators = λ x. refl; shifts = λ x. refl; equals = λ x. no_equals x (line_end_token ended_at) us refl };
  reads = λ end at ended_at us. passed refl;
  short = omega arith;
  bits_are = refl;
}

jumping : (c d n : ℕ) → ((bs : List ℕ) → piece (74 ∷ c ∷ d ∷ 10 ∷ bs) ≡ word_of Symbol 2 (74 ∷ c ∷ d ∷ 10 ∷ bs)) → role_of (74 ∷ c ∷ d ∷ []) ≡ role.Jump n → n % 8 ≡ n → Jumps n (59 ∷ 74 ∷ c ∷ d ∷ [])
jumping c d n piece_is role_is small = record {
  spelled = Some n;
  tokens = λ at ts. sign_token 59 at ∷ made_word Symbol (74 ∷ c ∷ d ∷ []) (walk at (59 ∷ [])) ∷ ts;
  apart = λ bs. record { symbol = refl; number = refl };
  cut = λ last at bs ts e.
      token_cut 59 [] (74 ∷ c ∷ d ∷ 10 ∷ bs) (Sign 59) last at _ refl
      (λ l. token_cut 74 (c ∷ d ∷ []) (10 ∷ bs) Symbol l (walk at (59 ∷ [])) ts (piece_is bs) e);
  shut = λ at ended_at us. record { operators = λ x. refl; shifts = λ x. refl; equals = λ x. no_equals x (sign_token 59 at) _ refl };
  reads = λ end at ended_at us.
      subst (λ (s : Said). R end (option jump) (sign_token 59 at ∷ made_word Symbol (74 ∷ c ∷ d ∷ []) (walk at (59 ∷ [])) ∷ line_end_token ended_at ∷ us) (Present (Pair Skip (Leaf s))) (line_end_token ended_at ∷ us))
      (ap role_said role_is) (taken refl (both (marked refl) (worded (ap jump_role role_is) refl)));
  short = omega arith;
  bits_are = small;
}

pub jumps_by : (bits : ℕ) → bits < 8 → Jumps bits (text_in jumps bits)
jumps_by bits h = below_eight (λ n. Jumps n (text_in jumps n))
    no_jump
    (jumping 71 84 1 (λ bs. refl) refl refl) (jumping 69 81 2 (λ bs. refl) refl refl) (jumping 71 69 3 (λ bs. refl) refl refl)
    (jumping 76 84 4 (λ bs. refl) refl refl) (jumping 78 69 5 (λ bs. refl) refl refl) (jumping 76 69 6 (λ bs. refl) refl refl)
    (jumping 77 80 7 (λ bs. refl) refl refl) bits h
