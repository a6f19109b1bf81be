-- Whether two words are equal, as `==` tells it.
use Rattle.std.proofs.Common.{◌≡◌, refl}
use Rattle.lexer.specs.contracts.token.WordPartialEq.TheImpl.{ghosts}
use Rattle.lexer.specs.declared.token.Word.{Word}
use Rattle.lexer.specs.declared.token.Word.TheVariants.{All, LetType, Rec, Top, Fold, Fun, Judge, LetTerm, RecTerm, TopTerm, Unfold, Colon, Below, Arrow, Equal, Turnstile, Open, Close, OpenBrace, CloseBrace, Semicolon, Unused, Name as Named, End}
use Rattle.grammar.specs.Notation.{same_word}

pub equals_is : (v w : Word) → ghosts.eq v w ≡ same_word v w
equals_is (Named v) (Named w) = refl
equals_is (Named v) w = refl
equals_is All w = elim w as (λ x. ghosts.eq All x ≡ same_word All x) [ Named x ↦ refl | x ↦ refl ]
equals_is LetType w = elim w as (λ x. ghosts.eq LetType x ≡ same_word LetType x) [ Named x ↦ refl | x ↦ refl ]
equals_is Rec w = elim w as (λ x. ghosts.eq Rec x ≡ same_word Rec x) [ Named x ↦ refl | x ↦ refl ]
equals_is Top w = elim w as (λ x. ghosts.eq Top x ≡ same_word Top x) [ Named x ↦ refl | x ↦ refl ]
equals_is Fold w = elim w as (λ x. ghosts.eq Fold x ≡ same_word Fold x) [ Named x ↦ refl | x ↦ refl ]
equals_is Fun w = elim w as (λ x. ghosts.eq Fun x ≡ same_word Fun x) [ Named x ↦ refl | x ↦ refl ]
equals_is Judge w = elim w as (λ x. ghosts.eq Judge x ≡ same_word Judge x) [ Named x ↦ refl | x ↦ refl ]
equals_is LetTerm w = elim w as (λ x. ghosts.eq LetTerm x ≡ same_word LetTerm x) [ Named x ↦ refl | x ↦ refl ]
equals_is RecTerm w = elim w as (λ x. ghosts.eq RecTerm x ≡ same_word RecTerm x) [ Named x ↦ refl | x ↦ refl ]
equals_is TopTerm w = elim w as (λ x. ghosts.eq TopTerm x ≡ same_word TopTerm x) [ Named x ↦ refl | x ↦ refl ]
equals_is Unfold w = elim w as (λ x. ghosts.eq Unfold x ≡ same_word Unfold x) [ Named x ↦ refl | x ↦ refl ]
equals_is Colon w = elim w as (λ x. ghosts.eq Colon x ≡ same_word Colon x) [ Named x ↦ refl | x ↦ refl ]
equals_is Below w = elim w as (λ x. ghosts.eq Below x ≡ same_word Below x) [ Named x ↦ refl | x ↦ refl ]
equals_is Arrow w = elim w as (λ x. ghosts.eq Arrow x ≡ same_word Arrow x) [ Named x ↦ refl | x ↦ refl ]
equals_is Equal w = elim w as (λ x. ghosts.eq Equal x ≡ same_word Equal x) [ Named x ↦ refl | x ↦ refl ]
equals_is Turnstile w = elim w as (λ x. ghosts.eq Turnstile x ≡ same_word Turnstile x) [ Named x ↦ refl | x ↦ refl ]
equals_is Open w = elim w as (λ x. ghosts.eq Open x ≡ same_word Open x) [ Named x ↦ refl | x ↦ refl ]
equals_is Close w = elim w as (λ x. ghosts.eq Close x ≡ same_word Close x) [ Named x ↦ refl | x ↦ refl ]
equals_is OpenBrace w = elim w as (λ x. ghosts.eq OpenBrace x ≡ same_word OpenBrace x) [ Named x ↦ refl | x ↦ refl ]
equals_is CloseBrace w = elim w as (λ x. ghosts.eq CloseBrace x ≡ same_word CloseBrace x) [ Named x ↦ refl | x ↦ refl ]
equals_is Semicolon w = elim w as (λ x. ghosts.eq Semicolon x ≡ same_word Semicolon x) [ Named x ↦ refl | x ↦ refl ]
equals_is Unused w = elim w as (λ x. ghosts.eq Unused x ≡ same_word Unused x) [ Named x ↦ refl | x ↦ refl ]
equals_is End w = elim w as (λ x. ghosts.eq End x ≡ same_word End x) [ Named x ↦ refl | x ↦ refl ]
