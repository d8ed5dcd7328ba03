-- Lines in colour, evaluated against the definitions.
use Rattle.std.proofs.Common.{◌≡◌, ◌∷◌, ◌++◌, codes, refl}
use Rattle.pgpipe_show.specs.declared.color.part.LinePart.TheVariants.{Start}
use Rattle.pgpipe_show.specs.ColoredPart.{colored}

ready : colored Start (codes "ReadyForQuery idle\n") ≡ 27 ∷ codes "[1;36mReadyForQuery" ++ 27 ∷ codes "[0m idle\n"
unfolding colored
ready = refl

-- a name alone, and one with a comma behind it
alone : colored Start (codes "SSLRequest\nSASLResponse, not") ≡ 27 ∷ codes "[1;36mSSLRequest" ++ 27 ∷ codes "[0m\n" ++ 27 ∷ codes "[1;36mSASLResponse" ++ 27 ∷ codes "[0m, not"
unfolding colored
alone = refl

failed : colored Start (codes "ErrorResponse ERROR 42P01\nSync\n") ≡ 27 ∷ codes "[1;36mErrorResponse" ++ 27 ∷ codes "[0m" ++ 27 ∷ codes "[31m ERROR 42P01" ++ 27 ∷ codes "[0m\n" ++ 27 ∷ codes "[1;36mSync" ++ 27 ∷ codes "[0m\n"
unfolding colored
failed = refl

-- more or less than `ErrorResponse` is another name
others : colored Start (codes "ErrorRespons x\nErrorResponses y\n") ≡ 27 ∷ codes "[1;36mErrorRespons" ++ 27 ∷ codes "[0m x\n" ++ 27 ∷ codes "[1;36mErrorResponses" ++ 27 ∷ codes "[0m y\n"
unfolding colored
others = refl
