-- Bytes by name.
use Rattle.std.specs.Prelude.{ℕ}
use Rattle.cg_reading.specs.Bytes.{Class}
use Rattle.cg_reading.specs.Tokens.{only}

abbrev pub quote : Class
quote = only 34

abbrev pub opening_paren : Class
opening_paren = only 40

abbrev pub closing_paren : Class
closing_paren = only 41

abbrev pub asterisk : Class
asterisk = only 42

abbrev pub plus : Class
plus = only 43

abbrev pub comma : Class
comma = only 44

abbrev pub minus : Class
minus = only 45

abbrev pub point : Class
point = only 46

abbrev pub slash : Class
slash = only 47

abbrev pub semicolon : Class
semicolon = only 59

abbrev pub opening_brace : Class
opening_brace = only 123

abbrev pub bar : Class
bar = only 124

abbrev pub closing_brace : Class
closing_brace = only 125

abbrev pub caret : ℕ
caret = 94

abbrev pub letter_v : ℕ
letter_v = 118
