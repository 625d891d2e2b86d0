-- Tokens that are a kind and a place.
use Rattle.scan_text.specs.declared.Place.{Place}
use Rattle.grammar.specs.declared.lines.Placed.{Placed}

-- a token of a kind, at a place
abbrev pub token_at : {K : Type 0} → K → Place → Placed K
token_at kind at = record { kind = kind; place = at }
