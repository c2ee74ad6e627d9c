-- A promise about steps holds of the same steps on packed states,
-- since they answer and end alike, reply by reply, as long as the invariant is kept.
use mathlib.Core.Path.{◌≡◌, refl, sym, ap, ◌∙◌}
use mathlib.Core.Logic.{◌⊎◌, inl, inr, ⊎_map}
use mathlib.Core.List.{List, [], ◌∷◌, map}
use Rattle.two_searches.specs.Streams.{answers, final, firsts, seconds, either, AsAlone}
use Rattle.two_searches.specs.Steps.{Independent, Packed}

module _ {S T X O P : Type 0} {I : T → Type 0} {pack : T → S} {say : O → P} {f : X → T → O × T} {g : X → S → P × S} (packed : Packed I pack say f g) where
  pub packed-answers : (xs : List X) (t : T) → I t → answers g xs (pack t) ≡ map say (answers f xs t)
  unfolding answers
  packed-answers [] t h = refl
  packed-answers (x ∷ xs) t h =
      rw (packed.answer x t h, packed.state x t h)
      (ap {B = List P} (λ l. say (f x t).0 ∷ l) (packed-answers xs (f x t).1 (packed.keeps x t h)))

  pub packed-final : (xs : List X) (t : T) → I t → final g xs (pack t) ≡ pack (final f xs t)
  unfolding final
  packed-final [] t h = refl
  packed-final (x ∷ xs) t h = rw (packed.state x t h) (packed-final xs (f x t).1 (packed.keeps x t h))

  -- what the steps keep, a stream keeps
  pub stream-keeps : (xs : List X) (t : T) → I t → I (final f xs t)
  unfolding final
  stream-keeps [] t h = h
  stream-keeps (x ∷ xs) t h = stream-keeps xs (f x t).1 (packed.keeps x t h)

module _ {X Y O P : Type 0} (p : X → O) (q : Y → P) where
  firsts-map : (zs : List (X ⊎ Y)) → firsts (map (⊎_map p q) zs) ≡ map p (firsts zs)
  unfolding firsts ⊎_map
  firsts-map [] = refl
  firsts-map (inl x ∷ zs) = ap {B = List O} (λ l. p x ∷ l) (firsts-map zs)
  firsts-map (inr y ∷ zs) = firsts-map zs

  seconds-map : (zs : List (X ⊎ Y)) → seconds (map (⊎_map p q) zs) ≡ map q (seconds zs)
  unfolding seconds ⊎_map
  seconds-map [] = refl
  seconds-map (inl x ∷ zs) = seconds-map zs
  seconds-map (inr y ∷ zs) = ap {B = List P} (λ l. q y ∷ l) (seconds-map zs)

module _
    {S T X Y O P O' P' : Type 0}
    {I : T → Type 0}
    {pack : T → S}
    {p : O → O'}
    {q : P → P'}
    {f : X → T → O × T}
    {g : Y → T → P × T}
    {f' : X → S → O' × S}
    {g' : Y → S → P' × S}
    (first : Packed I pack p f f')
    (second : Packed I pack q g g')
  where
    -- the steps of a merge are packed if those of both streams are
    pub packed-either : Packed I pack (⊎_map p q) (either f g) (either f' g')
    unfolding either ⊎_map
    packed-either = record { keeps = keeps; answer = answer; state = state } where
      keeps : (z : X ⊎ Y) (t : T) → I t → I (either f g z t).1
      keeps (inl x) t h = first.keeps x t h
      keeps (inr y) t h = second.keeps y t h

      answer : (z : X ⊎ Y) (t : T) → I t → (either f' g' z (pack t)).0 ≡ ⊎_map p q (either f g z t).0
      answer (inl x) t h = ap {B = O' ⊎ P'} inl (first.answer x t h)
      answer (inr y) t h = ap {B = O' ⊎ P'} inr (second.answer y t h)

      state : (z : X ⊎ Y) (t : T) → I t → (either f' g' z (pack t)).1 ≡ pack (either f g z t).1
      state (inl x) t h = first.state x t h
      state (inr y) t h = second.state y t h

    -- and then what is promised inside is promised of the packed state
    pub packed-as-alone : (xs : List X) (ys : List Y) (zs : List (X ⊎ Y)) (t : T) → I t → AsAlone f g xs ys zs t → AsAlone f' g' xs ys zs (pack t)
    packed-as-alone xs ys zs t h k =
        record {
          first =
              ap firsts (packed-answers packed-either zs t h) ∙ firsts-map p q (answers (either f g) zs t) ∙ ap (map p) k.first
              ∙ sym (packed-answers first xs t h);
          second =
              ap seconds (packed-answers packed-either zs t h) ∙ seconds-map p q (answers (either f g) zs t) ∙ ap (map q) k.second
              ∙ sym (packed-answers second ys t h);
          end =
              packed-final packed-either zs t h ∙ ap pack k.end
              ∙ sym (ap (final g' ys) (packed-final first xs t h) ∙ packed-final second ys (final f xs t) (stream-keeps first xs t h));
          other-end =
              packed-final packed-either zs t h ∙ ap pack k.other-end
              ∙ sym (ap (final f' xs) (packed-final second ys t h) ∙ packed-final first xs (final g ys t) (stream-keeps second ys t h));
        }

    -- steps that are independent inside are so on the packed states
    pub packed-independent : Independent I f g → Independent (λ s. (t : T) × I t × (s ≡ pack t)) f' g'
    packed-independent i =
        record {
          first-keeps = λ x s h. ((f x h.0).1, first.keeps x h.0 h.1, ap (λ u. (f' x u).1) h.2 ∙ first.state x h.0 h.1);
          second-keeps = λ y s h. ((g y h.0).1, second.keeps y h.0 h.1, ap (λ u. (g' y u).1) h.2 ∙ second.state y h.0 h.1);
          first-answer = λ x y s h. rw h.2 (first-answer x y h.0 h.1);
          second-answer = λ x y s h. rw h.2 (second-answer x y h.0 h.1);
          commute = λ x y s h. rw h.2 (commute x y h.0 h.1);
        }
      where
        first-answer : (x : X) (y : Y) (t : T) → I t → (f' x (g' y (pack t)).1).0 ≡ (f' x (pack t)).0
        first-answer x y t h =
            rw (second.state y t h, first.answer x t h, first.answer x (g y t).1 (second.keeps y t h)) (ap p (i.first-answer x y t h))

        second-answer : (x : X) (y : Y) (t : T) → I t → (g' y (f' x (pack t)).1).0 ≡ (g' y (pack t)).0
        second-answer x y t h =
            rw (first.state x t h, second.answer y t h, second.answer y (f x t).1 (first.keeps x t h)) (ap q (i.second-answer x y t h))

        commute : (x : X) (y : Y) (t : T) → I t → (f' x (g' y (pack t)).1).1 ≡ (g' y (f' x (pack t)).1).1
        commute x y t h =
            rw (second.state y t h, first.state x t h, first.state x (g y t).1 (second.keeps y t h), second.state y (f x t).1 (first.keeps x t h))
            (ap pack (i.commute x y t h))
