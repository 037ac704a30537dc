-- What an excerpt is, by the bytes that it is taken from.
use Rattle.std.specs.Prelude.{◌≡◌, ℕ, true, false, List, [], ◌∷◌}
use Rattle.text_bytes.specs.Bytes.{letter, digit}
use Rattle.token_words.specs.declared.excerpt.Excerpt.{Excerpt}
use Rattle.token_words.specs.declared.excerpt.Excerpt.TheVariants.{Word, Digits, Quoted, Byte, End}

-- it goes by the first byte, and there is none only at the end
abbrev pub Stands : List ℕ → Excerpt → Type 0
Stands [] e = e ≡ End
Stands (b ∷ bs) (Word s) = letter b ≡ true
Stands (b ∷ bs) (Digits s) = digit b ≡ true
Stands (b ∷ bs) (Quoted s) = b ≡ 34
Stands (b ∷ bs) (Byte c) = (c ≡ b) × (letter b ≡ false) × (digit b ≡ false)
Stands (b ∷ bs) End = ⊥
