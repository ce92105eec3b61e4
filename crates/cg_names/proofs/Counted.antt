-- The braces that are open at once, counted on the text of a name.
use Rattle.std.proofs.Common.{◌≡◌, refl, ap, sym, ◌∙◌, subst, ℕ, zero, suc, ◌+◌, ◌-◌, ◌^◌, ◌%◌, ◌<◌, ◌≤◌, max, arith, List, []}
use Rattle.std.proofs.Common.{◌∷◌, ◌++◌, append_assoc, Bool, true, false, cond, ◌==◌, nat_eq, ℤ, pos, negsuc, unsigned_abs}
use Rattle.std.specs.Prelude.{codes, decimal, if◌then◌else◌}
use Rattle.std.specs.Fmt.{signed_decimal}
use Rattle.std.proofs.lemmas.Fmt.{decimal_by_steps_wide}
use Rattle.std.proofs.lemmas.Bool.Decides.{nat_tests}
use Rattle.cg_dyadic.specs.Exact.{number_text}
use Rattle.cg_dyadic.specs.Number.{InRange, Number, exp_of, num_of}
use Rattle.cg_form.specs.Game.{number}
use Rattle.cg_form.specs.Structure.{is_same}
use Rattle.cg_names.specs.Name.{braces_name}
use Rattle.cg_names.specs.Named.{zero_form}
use Rattle.cg_names.specs.Reading.{IsNamedInRange, most_open, open_behind}
use Rattle.cg_names.specs.NamedForms.{arrows_text, base_text, named_text, star_text, tiny_word}
use Rattle.cg_names.specs.declared.named_form.NamedForm.{NamedForm}
use Rattle.cg_names.specs.declared.named_form.NamedForm.TheVariants.{Star, Arrows, Switch, Tiny}
use Rattle.cg_names.proofs.Terms.{few_below, few_digits}

-- ---- texts without braces

-- another byte than a brace
abbrev IsOther : ℕ → Type 0
IsOther b = ((b == 123) ≡ false) × ((b == 125) ≡ false)

abbrev pub IsBare : List ℕ → Type 0
IsBare [] = Unit {0}
IsBare (b ∷ bytes) = IsOther b × IsBare bytes

bare_append : (xs ys : List ℕ) → IsBare xs → IsBare ys → IsBare (xs ++ ys)
bare_append [] ys a b = b
bare_append (x ∷ xs) ys a b = (a.0, bare_append xs ys a.1 b)

digit_other : (n : ℕ) → n < 10 → IsOther (48 + n)
digit_other n l = (grind (arith, nat_tests), grind (arith, nat_tests))

decimal_bare : (n : ℕ) → n < 10 ^ 30 → IsBare (decimal n)
decimal_bare n l = decimal_by_steps_wide (λ m ds. IsBare ds) (λ m s. (digit_other m s, tt))
    (λ m ds t d. bare_append ds ((48 + m % 10) ∷ []) d (digit_other (m % 10) (omega arith), tt)) n (omega arith)

cond_bare : (b : Bool) (xs ys : List ℕ) → IsBare xs → IsBare ys → IsBare (cond b xs ys)
cond_bare true xs ys x y = x
cond_bare false xs ys x y = y

signed_bare : (n : ℤ) → unsigned_abs n < 10 ^ 30 → IsBare (signed_decimal n)
signed_bare (pos n) l = decimal_bare n l
signed_bare (negsuc n) l = ((refl, refl), decimal_bare (suc n) l)

pub number_bare : (x : Number) → InRange x → IsBare (number_text x)
number_bare x r = bare_append (signed_decimal (num_of x)) _ (signed_bare (num_of x) (few_digits x r))
    (cond_bare (nat_eq (exp_of x) 0) [] (47 ∷ decimal (2 ^ exp_of x)) tt
    ((refl, refl), decimal_bare (2 ^ exp_of x) (few_below (exp_of x) r.short)))

base_bare : (x : Number) → InRange x → IsBare (base_text x)
base_bare x r = cond_bare (is_same (number x) zero_form) [] (number_text x) tt (number_bare x r)

star_bare : (n : ℕ) → n < 10 ^ 30 → IsBare (star_text n)
star_bare n l = ((refl, refl), cond_bare (n == 1) [] (decimal n) tt (decimal_bare n l))

arrows_bare : (arrow n : ℕ) → IsOther arrow → n < 10 ^ 30 → IsBare (arrows_text arrow n)
arrows_bare arrow zero o l = (o, decimal_bare 0 l)
arrows_bare arrow (suc zero) o l = (o, tt)
arrows_bare arrow (suc (suc zero)) o l = (o, (o, tt))
arrows_bare arrow (suc (suc (suc n))) o l = (o, decimal_bare (suc (suc (suc n))) l)

arrow_other : (down : Bool) → IsOther (cond down 118 94)
arrow_other true = (refl, refl)
arrow_other false = (refl, refl)

star_behind : (starred : Bool) → IsBare (cond starred (42 ∷ []) [])
star_behind true = ((refl, refl), tt)
star_behind false = tt

word_bare : (miny : Bool) → IsBare (tiny_word miny)
word_bare false = ((refl, refl), ((refl, refl), ((refl, refl), ((refl, refl), ((refl, refl), tt)))))
word_bare true = ((refl, refl), ((refl, refl), ((refl, refl), ((refl, refl), ((refl, refl), tt)))))

pub named_bare : (s : NamedForm) → IsNamedInRange s → IsBare (named_text s)
named_bare (Star x n) r = bare_append (base_text x) (star_text n) (base_bare x r.0) (star_bare n r.1)
named_bare (Arrows down starred x n) r =
    bare_append (base_text x) (arrows_text (cond down 118 94) n ++ cond starred (42 ∷ []) []) (base_bare x r.0)
    (bare_append (arrows_text (cond down 118 94) n) (cond starred (42 ∷ []) [])
    (arrows_bare (cond down 118 94) n (arrow_other down) r.1) (star_behind starred))
named_bare (Switch x) r = ((refl, refl), ((refl, refl), number_bare x r))
named_bare (Tiny miny x) r = bare_append (tiny_word miny) (number_text x ++ codes ")") (word_bare miny)
    (bare_append (number_text x) (codes ")") (number_bare x r) ((refl, refl), tt))

-- ---- what is open

at_least : (n : ℕ) (text : List ℕ) → n ≤ most_open n text
at_least n [] = omega arith
at_least n (b ∷ text) = omega arith

other_open : (b n : ℕ) → IsOther b → open_behind b n ≡ n
other_open b n o = ap (λ q. if q then suc n else if b == 125 then n - 1 else n) o.0 ∙ ap (λ q. if q then n - 1 else n) o.1

bare_open : (n : ℕ) (text rest : List ℕ) → IsBare text → most_open n rest ≤ most_open n (text ++ rest)
bare_open n [] rest a = omega arith
bare_open n (b ∷ text) rest a =
    let i = bare_open n text rest a.1 in
    rw (other_open b n a.0) (omega arith)

-- at least so many braces are open at once, and behind the text as many as before it
unfoldable pub Counted : ℕ → List ℕ → Type 0
Counted opened text = (n : ℕ) (rest : List ℕ) → max (n + opened) (most_open n rest) ≤ most_open n (text ++ rest)

pub bare_counted : (text : List ℕ) → IsBare text → Counted 0 text
unfolding Counted
bare_counted text a n rest = let i = bare_open n text rest a in let j = at_least n rest in omega arith

pub joined_counted : (a b : ℕ) (x y : List ℕ) → Counted a x → Counted b y → Counted (max a b) (x ++ y)
unfolding Counted
joined_counted a b x y f h n rest =
    let i = f n (y ++ rest) in
    let j = h n rest in
    rw (append_assoc x y rest) (omega arith)

braces_text : (left right rest : List ℕ) → braces_name left right ++ rest ≡ 123 ∷ (left ++ (124 ∷ (right ++ (125 ∷ rest))))
braces_text left right rest =
    ap (λ z. 123 ∷ z) (append_assoc left (124 ∷ (right ++ (125 ∷ []))) rest
    ∙ ap (λ z. left ++ (124 ∷ z)) (append_assoc right (125 ∷ []) rest))

closed_open : (n : ℕ) (rest : List ℕ) → most_open n rest ≤ most_open (suc n) (125 ∷ rest)
closed_open n rest =
    let e : n ≡ suc n - 1 = omega arith in
    rw (← e) (omega arith)

pub braces_counted : (a b : ℕ) (left right : List ℕ) → Counted a left → Counted b right
    → Counted (suc (max a b)) (braces_name left right)
unfolding Counted
braces_counted a b left right f h n rest =
    let P : List ℕ → Type 0 = λ z. max (n + suc (max a b)) (most_open n rest) ≤ most_open n z in
    let i = f (suc n) (124 ∷ (right ++ (125 ∷ rest))) in
    let j = h (suc n) (125 ∷ rest) in
    let k = closed_open n rest in
    subst P (sym (braces_text left right rest)) (omega arith)

pub fewer_counted : (a b : ℕ) (text : List ℕ) → b ≤ a → Counted a text → Counted b text
unfolding Counted
fewer_counted a b text l f n rest = let i = f n rest in omega arith
