-- What is known of reading: a byte more, and a part of the text read byte by byte.
use Rattle.std.proofs.Common.{◌≡◌, ℕ, ◌+◌, ◌<◌, ◌≤◌, List, [], ◌∷◌, length, get_or, drop, sym, ap, ◌∙◌, add-one, arith, drop_of_length-le, drop-cons}
use Rattle.reading.specs.declared.Reader.{Reader}
use Rattle.reading.specs.declared.Word.{Word}
use Rattle.reading.specs.declared.Read.{Read}
use Rattle.reading.specs.declared.Word.TheVariants.{Nothing, Number, Wrong}
use Rattle.reading.specs.declared.Heard.{Heard}
use Rattle.reading.specs.Reading.{heard_of, unless_word, read_from}

-- nothing is left to read
pub read_all : (r : Reader) (part : List ℕ) (i : ℕ) → length part ≤ i → read_from r (drop i part) i ≡ record { heard = record { reader = r; word = Nothing }; used = i }
unfolding read_from
read_all r part i h = rw (drop_of_length-le part h)

-- one byte more, which gave h
read_byte : (r : Reader) (part : List ℕ) (i : ℕ) (h : Heard) → i < length part → h ≡ heard_of r (get_or part i 0) →
    read_from r (drop i part) i
    ≡ unless_word h.word (read_from h.reader (drop (i + 1) part) (i + 1)) (record { heard = h; used = i + 1 })
unfolding read_from
read_byte r part i h l e = rw (drop-cons part i 0 l, e, add-one)

word_is : {v w : Word} (later now : Read) → v ≡ w → unless_word v later now ≡ unless_word w later now
word_is later now e = ap (λ x. unless_word x later now) e

pub read_on : (r : Reader) (part : List ℕ) (i : ℕ) (h : Heard) → i < length part → h ≡ heard_of r (get_or part i 0) → h.word ≡ Nothing →
    read_from h.reader (drop (i + 1) part) (i + 1) ≡ read_from r (drop i part) i
read_on r part i h l e w = sym (read_byte r part i h l e ∙ word_is _ _ w)

pub read_number : (r : Reader) (part : List ℕ) (i : ℕ) (h : Heard) (n : ℕ) → i < length part → h ≡ heard_of r (get_or part i 0) → h.word ≡ Number n →
    record { heard = h; used = i + 1 } ≡ read_from r (drop i part) i
read_number r part i h n l e w = sym (read_byte r part i h l e ∙ word_is _ _ w)

pub read_wrong : (r : Reader) (part : List ℕ) (i : ℕ) (h : Heard) → i < length part → h ≡ heard_of r (get_or part i 0) → h.word ≡ Wrong →
    record { heard = h; used = i + 1 } ≡ read_from r (drop i part) i
read_wrong r part i h l e w = sym (read_byte r part i h l e ∙ word_is _ _ w)

-- ---- how much of a part is read: all of it at most, and of a part that is not empty some

pub used_within : (r : Reader) (part : List ℕ) (i : ℕ) → (read_from r part i).used ≤ i + length part
unfolding read_from
used_within r [] i = omega arith
used_within r (b ∷ bs) i = go (heard_of r b).word (used_within (heard_of r b).reader bs (i + 1))
  where
    go : (w : Word) → (read_from (heard_of r b).reader bs (i + 1)).used ≤ i + 1 + length bs
        → (unless_word w (read_from (heard_of r b).reader bs (i + 1)) (record { heard = heard_of r b; used = i + 1 })).used ≤ i + length (b ∷ bs)
    go Nothing h = omega arith
    go (Number n) h = omega arith
    go Wrong h = omega arith

used_from : (r : Reader) (part : List ℕ) (i : ℕ) → i ≤ (read_from r part i).used
unfolding read_from
used_from r [] i = omega arith
used_from r (b ∷ bs) i = go (heard_of r b).word (used_from (heard_of r b).reader bs (i + 1))
  where
    go : (w : Word) → i + 1 ≤ (read_from (heard_of r b).reader bs (i + 1)).used
        → i ≤ (unless_word w (read_from (heard_of r b).reader bs (i + 1)) (record { heard = heard_of r b; used = i + 1 })).used
    go Nothing h = omega arith
    go (Number n) h = omega arith
    go Wrong h = omega arith

pub used_some : (r : Reader) (part : List ℕ) → 0 < length part → 0 < (read_from r part 0).used
unfolding read_from
used_some r [] h = absurd (omega arith)
used_some r (b ∷ bs) h = go (heard_of r b).word (used_from (heard_of r b).reader bs 1)
  where
    go : (w : Word) → 1 ≤ (read_from (heard_of r b).reader bs 1).used
        → 0 < (unless_word w (read_from (heard_of r b).reader bs 1) (record { heard = heard_of r b; used = 1 })).used
    go Nothing h = omega arith
    go (Number n) h = omega arith
    go Wrong h = omega arith
