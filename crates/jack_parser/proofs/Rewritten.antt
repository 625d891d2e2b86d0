-- The printed form of a class that keeps the limits is read again.
use Rattle.std.proofs.Common.{◌≡◌, ◌≤◌, ℕ, Bool, true, List, [], ◌∷◌, map, length, Ok, refl, sym, ap, subst, ◌∙◌}
use Rattle.std.specs.List.{flat_map}
use Rattle.std.specs.List as lists
use Rattle.std.proofs.lemmas.List.Elements.{All-head, All-tail}
use Rattle.scan_text.specs.Text.{start}
use Rattle.jack_tree.specs.declared.token.Kind.{Kind}
use Rattle.jack_tree.specs.declared.token.Kind.TheVariants as kind
use Rattle.jack_tree.specs.Tokens.{Word}
use Rattle.jack_tree.specs.Syntax.{Class}
use Rattle.grammar.specs.Words.{is_name_byte}
use Rattle.jack_lexer.specs.Tokens.{tokens_of, finish, kind_of, is_text_byte}
use Rattle.jack_parser.specs.Grammar.{jack, Said, Fixed, Placed, fresh, whole}
use Rattle.jack_parser.specs.Spelling.{Tokens, Says, Say, text_by, class_tokens}
use Rattle.jack_parser.specs.Limits.{KeepsLimits}
use Rattle.grammar.specs.Printed.{set_off}
use Rattle.jack_parser.specs.Printed.{kind_text, content, shown_word, said_text}
use Rattle.jack_parser.specs.PrintedClass.{printed_class, CanBe, CanSay, CanAllSay, Tells, Tell, HasTokens, PrintedClassLaw}
use Rattle.grammar.proofs.Spaced.{All}
use Rattle.jack_parser.proofs.Spaced.{Good, AllGood, told, printed_good, quoted, unquoted_quoted}
use Rattle.jack_parser.proofs.Blindness.{read_again}
use Rattle.jack_parser.proofs.PlainTrees.{whole_tree}
use Rattle.jack_parser.proofs.SeenTokens.{class_seen}
use Rattle.jack_parser.proofs.BuiltClasses.{class_reads}
use Rattle.jack_parser.proofs.Spelt.{say_front}

-- a token that says it
abbrev text_for : Kind → List ℕ → List ℕ
text_for kind.Text text = quoted text
text_for k text = text

abbrev word_for : Said → Word
word_for (Fixed k) = record { kind = k; text = text_for k []; place = start }
word_for (Placed k text at) = record { kind = k; text = text_for k text; place = at }

kept : (k : Kind) (text : List ℕ) → CanBe k text → text_by k (text_for k text) ≡ text
kept (kind.Keyword k) text h = sym h
kept (kind.Symbol b) text h = sym h.2
kept (kind.Integer n) text h = sym h.1
kept kind.Text text h = unquoted_quoted text
kept kind.Identifier text h = refl

word_says : (v : Said) → CanSay v → Says (word_for v) v
word_says (Fixed k) h = refl
word_says (Placed k text at) h = (refl, kept k text h, refl)

words_say : (vs : Tokens) → CanAllSay vs → Say (map word_for vs) vs
words_say [] h = tt
words_say (v ∷ vs) h = (word_says v h.0, words_say vs h.1)

all_text : (is : ℕ → Bool) (bs : List ℕ) → lists.All (λ b. is b ≡ true) bs → All is bs
all_text is [] h = tt
all_text is (b ∷ bs) h = (All-head (λ c. is c ≡ true) b bs h, all_text is bs (All-tail (λ c. is c ≡ true) b bs h))

good : (k : Kind) (text : List ℕ) → CanBe k text → Good k (text_for k text)
good (kind.Keyword k) text h = tt
good (kind.Symbol b) text h = (h.0, h.1)
good (kind.Integer n) text h = h.0
good kind.Text text h = subst (All is_text_byte) (sym (unquoted_quoted text)) (all_text is_text_byte text h)
good kind.Identifier text h = record { first = h.first; more = h.more; is = h.is; letter = h.letter; names = all_text is_name_byte h.more h.names; kind = ap kind_of h.free }

word_good : (v : Said) → CanSay v → Good (word_for v).kind (word_for v).text
word_good (Fixed k) h = good k [] h
word_good (Placed k text at) h = good k text h

words_good : (vs : Tokens) → CanAllSay vs → AllGood (map word_for vs)
words_good [] h = tt
words_good (v ∷ vs) h = (word_good v h.0, words_good vs h.1)

same_text : (k : Kind) (text : List ℕ) → kind_text k (content k (text_for k text)) ≡ kind_text k text
same_text (kind.Keyword k) text = refl
same_text (kind.Symbol b) text = refl
same_text (kind.Integer n) text = refl
same_text kind.Text text = ap (kind_text kind.Text) (unquoted_quoted text)
same_text kind.Identifier text = refl

word_shown : (v : Said) → shown_word (word_for v) ≡ said_text v
word_shown (Fixed k) = same_text k []
word_shown (Placed k text at) = same_text k text

words_shown : (vs : Tokens) → map shown_word (map word_for vs) ≡ map said_text vs
words_shown [] = refl
words_shown (v ∷ vs) = λ i. word_shown v i ∷ words_shown vs i

-- tokens that say the same stand for the same, wherever they stand
head_is : (t u : Word) (ts us : List Word) → told t ∷ map told ts ≡ told u ∷ map told us → told t ≡ told u
head_is t u ts us e = cc

tail_is : (t u : Word) (ts us : List Word) → told t ∷ map told ts ≡ told u ∷ map told us → map told ts ≡ map told us
tail_is t u ts us e = cc

tells_by : (t : Word) (v : Said) → CanSay v → told t ≡ told (word_for v) → Tells t v
tells_by t (Fixed k) h e = ap (λ (x : Kind × List ℕ). x.0) e
tells_by t (Placed k text at) h e = (ap (λ (x : Kind × List ℕ). x.0) e, ap (λ (x : Kind × List ℕ). x.1) e ∙ kept k text h)

tell_by : (ts : List Word) (vs : Tokens) → CanAllSay vs → map told ts ≡ map told (map word_for vs) → Tell ts vs
tell_by [] [] h e = tt
tell_by [] (v ∷ vs) h e = absurd cc
tell_by (t ∷ ts) [] h e = absurd cc
tell_by (t ∷ ts) (v ∷ vs) h e = (tells_by t v h.0 (head_is t (word_for v) ts (map word_for vs) e), tell_by ts vs h.1 (tail_is t (word_for v) ts (map word_for vs) e))

again : (c : Class) → KeepsLimits c → CanAllSay (class_tokens c) → length (printed_class c) ≤ 1048576 → HasTokens (printed_class c) c
again c k h small =
    let vs = class_tokens c in
    let ws = map word_for vs in
    let out = printed_class c in
    let same : flat_map set_off (map shown_word ws) ≡ out = ap (flat_map set_off) (words_shown vs) in
    let cut = printed_good ws (words_good vs h) (subst (λ (l : List ℕ). length l ≤ 1048576) (sym same) small) in
    let tokens : tokens_of out ≡ Ok cut.0 = ap tokens_of (sym same) ∙ cut.1 in
    let read = class_reads start c ws k (record { told = say_front ws vs (words_say vs h) }) in
    let spelled = read_again start out (whole_tree c) ws cut.0 read.0 read.1 cut.2 tokens in
    record {
      tokens = cut.0;
      cut = tokens;
      tell = tell_by cut.0 vs h cut.2;
      tree = spelled.0;
      spells = spelled.1;
    }

pub printed_again : PrintedClassLaw
printed_again = record {
  form = λ c. ap (λ (l : Tokens). flat_map set_off (map said_text l)) (class_seen start c);
  again = again;
}
