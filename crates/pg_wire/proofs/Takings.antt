-- What a call of a decoder does to what it was given and has given.
use Rattle.std.proofs.Common.{◌≡◌, ℕ, List, [], ◌∷◌, ◌++◌, Option, Some, None, Result, Ok, Err, refl, sym, ap, subst, ◌∙◌, append_assoc, inl, inr}
use Rattle.std.specs.Prelude.{OnOk, ◌⊎◌}
use Rattle.std.specs.List.{flat_map, AllByRecursion}
use Rattle.std.proofs.lemmas.List.{append-nil}
use Rattle.pg_wire.specs.declared.fault.WireFault.{WireFault}
use Rattle.pg_wire.specs.declared.fault.WireFault.TheVariants as wire
use Rattle.pg_message.specs.Direction.{Direction, spelling}
use Rattle.pg_wire.specs.Stream.{IsWithin, IsStream, IsFaulty}
use Rattle.pg_wire.specs.Laws.{FaultOfNext}
use Rattle.pg_wire.specs.Decoder.{DecoderState, HasTaken, HasStoredFault, Pushes, Takes, given_after}

module _ {M : Type 0} (d : Direction M) where
  joined : (ms : List M) (m : M) → flat_map (spelling d) (ms ++ m ∷ []) ≡ flat_map (spelling d) ms ++ spelling d m
  joined [] m = append-nil (spelling d m)
  joined (x ∷ ms) m = ap (λ (u : List ℕ). spelling d x ++ u) (joined ms m) ∙ sym (append_assoc (spelling d x) (flat_map (spelling d) ms) (spelling d m))

  all_within : (limit : ℕ) (ms : List M) (m : M) → AllByRecursion (IsWithin d limit) ms → IsWithin d limit m → AllByRecursion (IsWithin d limit) (ms ++ m ∷ [])
  all_within limit [] m each one = (one, tt)
  all_within limit (x ∷ ms) m each one = (each.0, all_within limit ms m each.1 one)

  one_taken : (limit : ℕ) (pushed : List ℕ) (given : List M) (kept left : List ℕ) (m : M) → IsStream d limit pushed given kept → IsWithin d limit m → kept ≡ spelling d m ++ left → IsStream d limit pushed (given ++ m ∷ []) left
  one_taken limit pushed given kept left m s one is = record {
    whole = s.whole ∙ ap (λ (u : List ℕ). flat_map (spelling d) given ++ u) is ∙ sym (append_assoc (flat_map (spelling d) given) (spelling d m) left) ∙ ap (λ (u : List ℕ). u ++ left) (sym (joined given m));
    each = all_within limit given m s.each one;
  }

  more_pushed : (limit : ℕ) (pushed piece : List ℕ) (given : List M) (kept : List ℕ) → IsStream d limit pushed given kept → IsStream d limit (pushed ++ piece) given (kept ++ piece)
  more_pushed limit pushed piece given kept s = record {
    whole = ap (λ (u : List ℕ). u ++ piece) s.whole ∙ append_assoc (flat_map (spelling d) given) kept piece;
    each = s.each;
  }

  no_fault : (limit : ℕ) (rest : List ℕ) (f : Option WireFault) → f ≡ None → HasStoredFault d limit rest f
  no_fault limit rest None e = tt
  no_fault limit rest (Some f) e = absurd cc

  -- a piece was taken
  pub taken_push : (old : DecoderState) (piece : List ℕ) (r : Result Unit WireFault) (new : DecoderState) → Pushes old piece r new → OnOk r ((pushed : List ℕ) (given : List M) → HasTaken d old pushed given → HasTaken d new (pushed ++ piece) given)
  taken_push old piece (Ok x) new p = λ pushed given h.
      let after : DecoderState = record { kept = old.kept ++ piece; limit = old.limit; fault = old.fault } in
      let now : HasTaken d after (pushed ++ piece) given = record { stream = more_pushed old.limit pushed piece given old.kept h.stream; fault = no_fault old.limit (old.kept ++ piece) old.fault p.0 } in
      subst (λ (s : DecoderState). HasTaken d s (pushed ++ piece) given) (sym p.1) now
  taken_push old piece (Err f) new p = tt

  faulty : (old : DecoderState) (f : WireFault) (new : DecoderState) → ((old.fault ≡ Some f) × (new ≡ old)) ⊎ ((old.fault ≡ None) × (new ≡ record old { fault = Some f }) × IsFaulty d old.limit old.kept f) → (pushed : List ℕ) (given : List M) → HasTaken d old pushed given → HasTaken d new pushed given
  faulty old f new (inl t) pushed given h = subst (λ (s : DecoderState). HasTaken d s pushed given) (sym t.1) h
  faulty old f new (inr t) pushed given h =
      let after : DecoderState = record { kept = old.kept; limit = old.limit; fault = Some f } in
      let now : HasTaken d after pushed given = record { stream = h.stream; fault = t.2 } in
      subst (λ (s : DecoderState). HasTaken d s pushed given) (sym t.1) now

  -- a message was given, or not
  pub taken_next : (old : DecoderState) (r : Result (Option M) WireFault) (new : DecoderState) → Takes d old r new → (pushed : List ℕ) (given : List M) → HasTaken d old pushed given → HasTaken d new pushed (given_after given r)
  taken_next old (Ok None) new t pushed given h = subst (λ (s : DecoderState). HasTaken d s pushed given) (sym t.1) h
  taken_next old (Ok (Some m)) new t pushed given h =
      let after : DecoderState = record { kept = new.kept; limit = old.limit; fault = old.fault } in
      let now : HasTaken d after pushed (given ++ m ∷ []) = record { stream = one_taken old.limit pushed given old.kept new.kept m h.stream t.1 t.2; fault = no_fault old.limit new.kept old.fault t.0 } in
      subst (λ (s : DecoderState). HasTaken d s pushed (given ++ m ∷ [])) (sym t.3) now
  taken_next old (Err wire.Memory) new t pushed given h = subst (λ (s : DecoderState). HasTaken d s pushed given) (sym t.1) h
  taken_next old (Err (wire.UnknownTag x)) new t pushed given h = faulty old (wire.UnknownTag x) new t pushed given h
  taken_next old (Err (wire.ShortLength x)) new t pushed given h = faulty old (wire.ShortLength x) new t pushed given h
  taken_next old (Err (wire.LongLength x)) new t pushed given h = faulty old (wire.LongLength x) new t pushed given h
  taken_next old (Err (wire.BadBody x)) new t pushed given h = faulty old (wire.BadBody x) new t pushed given h
  taken_next old (Err (wire.BadFirst x)) new t pushed given h = faulty old (wire.BadFirst x) new t pushed given h

  -- a fault was answered
  pub fault_of_next : FaultOfNext d
  fault_of_next old wire.Memory new t = inl (refl, t.0, t.1, t.2)
  fault_of_next old (wire.UnknownTag x) new t = inr t
  fault_of_next old (wire.ShortLength x) new t = inr t
  fault_of_next old (wire.LongLength x) new t = inr t
  fault_of_next old (wire.BadBody x) new t = inr t
  fault_of_next old (wire.BadFirst x) new t = inr t
