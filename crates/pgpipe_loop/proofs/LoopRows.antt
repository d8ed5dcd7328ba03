-- Worked examples of the lines of a loop, computed from the definitions alone but for the decimal numbers.
use Rattle.std.proofs.Common.{◌≡◌, ℕ, false, List, [], ◌∷◌, ◌++◌, Some, None, codes, refl, ap, arith}
use Rattle.std.specs.Prelude.{pos, negsuc}
use Rattle.std.proofs.lemmas.Fmt.{decimal_digit}
use Rattle.pg_wire.specs.declared.fault.WireFault.TheVariants.{BadBody}
use Rattle.pg_wire.specs.value.Status.TheVariants as status
use Rattle.pg_wire.specs.declared.session.Aside.TheVariants.{Notice}
use Rattle.pg_wire.specs.declared.session.Part.TheVariants as part
use Rattle.pg_wire.specs.declared.session.Request.TheVariants.{Query}
use Rattle.pg_client.specs.declared.fault.CallFault.TheVariants as call
use Rattle.pg_client.specs.declared.fault.FeedFault.TheVariants as feed
use Rattle.pg_client.specs.declared.phase.Cause.TheVariants as cause
use Rattle.pg_client.specs.declared.phase.Phase.TheVariants as phase
use Rattle.pg_backend.specs.declared.phase.BackPhase.TheVariants as back
use Rattle.pg_backend.specs.declared.fault.BackendFault.TheVariants as backend
use Rattle.pg_backend.specs.OwnError.{wrong_password}
use Rattle.pg_pair.specs.declared.event.Applied.TheVariants as applied
use Rattle.pgpipe_loop.specs.Lines.{closing_rows, decided_rows, event_rows, loaded_row, port_row, text_line, text_lines}

-- settled<tab>query<tab>SELECT 1 / rows<tab>SELECT 1<tab>n / row<tab>1 / status<tab>I
pub one_row : text_lines (event_rows (record { request = Query (codes "SELECT 1"); outcome = record { parts = part.Rows (record { name = codes "n"; table_oid = 0; attribute = pos 0; type_oid = 25; size = negsuc 0; modifier = negsuc 0; format = pos 0 } ∷ []) ((Some (codes "1") ∷ []) ∷ []) (codes "SELECT 1") ∷ []; error = None; status = status.Idle; asides = [] } } ∷ []) applied.Done None)
    ≡ codes "settled" ++ 9 ∷ codes "query" ++ 9 ∷ codes "SELECT 1" ++ 10 ∷ codes "rows" ++ 9 ∷ codes "SELECT 1" ++ 9 ∷ codes "n" ++ 10 ∷ codes "row" ++ 9 ∷ codes "1" ++ 10 ∷ codes "status" ++ 9 ∷ codes "I" ++ 10 ∷ []
one_row = refl

-- settled<tab>query<tab>Q / notice<tab>M<tab>hi / command<tab>A / error<tab>C<tab>XX000<tab>M<tab>bad / status<tab>E
pub an_error : text_lines (event_rows (record { request = Query (codes "Q"); outcome = record { parts = part.Command (codes "A") ∷ []; error = Some (record { code = 67; value = codes "XX000" } ∷ record { code = 77; value = codes "bad" } ∷ []); status = status.Failed; asides = Notice (record { code = 77; value = codes "hi" } ∷ []) ∷ [] } } ∷ []) applied.Done None)
    ≡ codes "settled" ++ 9 ∷ codes "query" ++ 9 ∷ codes "Q" ++ 10 ∷ codes "notice" ++ 9 ∷ codes "M" ++ 9 ∷ codes "hi" ++ 10 ∷ codes "command" ++ 9 ∷ codes "A" ++ 10 ∷ codes "error" ++ 9 ∷ codes "C" ++ 9 ∷ codes "XX000" ++ 9 ∷ codes "M" ++ 9 ∷ codes "bad" ++ 10 ∷ codes "status" ++ 9 ∷ codes "E" ++ 10 ∷ []
an_error = refl

-- lost<tab>clear<tab>query<tab>SELECT 1
pub a_loss : text_lines (event_rows [] applied.Done (Some (record { unsettled = Some (Query (codes "SELECT 1")); seen_error = false }))) ≡ codes "lost" ++ 9 ∷ codes "clear" ++ 9 ∷ codes "query" ++ 9 ∷ codes "SELECT 1" ++ 10 ∷ []
a_loss = refl

-- refused<tab>C1
pub a_refusal : text_lines (event_rows [] (applied.Refused None (call.NotReady phase.Busy)) None) ≡ codes "refused" ++ 9 ∷ codes "C1" ++ 10 ∷ []
a_refusal = refl

-- fault<tab>K1<tab>W4, fault<tab>F5<tab>M<tab>no and fault<tab>carry
pub a_backend_fault : text_lines (event_rows [] (applied.Backend (backend.Wire (BadBody 90))) None) ≡ codes "fault" ++ 9 ∷ codes "K1" ++ 9 ∷ codes "W4" ++ 10 ∷ []
a_backend_fault = refl

pub a_client_fault : text_lines (event_rows [] (applied.Client (feed.StartupError (record { code = 77; value = codes "no" } ∷ []))) None) ≡ codes "fault" ++ 9 ∷ codes "F5" ++ 9 ∷ codes "M" ++ 9 ∷ codes "no" ++ 10 ∷ []
a_client_fault = refl

-- fault<tab>F5<tab>S<tab>FATAL<tab>V<tab>FATAL<tab>C<tab>28P01<tab>M<tab>password authentication failed
pub a_wrong_password : text_lines (event_rows [] (applied.Client (feed.StartupError wrong_password)) None)
    ≡ codes "fault" ++ 9 ∷ codes "F5" ++ 9 ∷ codes "S" ++ 9 ∷ codes "FATAL" ++ 9 ∷ codes "V" ++ 9 ∷ codes "FATAL" ++ 9 ∷ codes "C" ++ 9 ∷ codes "28P01" ++ 9 ∷ codes "M" ++ 9 ∷ codes "password authentication failed" ++ 10 ∷ []
a_wrong_password = refl

pub a_carrier_fault : text_lines (event_rows [] applied.Carrier None) ≡ codes "fault" ++ 9 ∷ codes "carry" ++ 10 ∷ []
a_carrier_fault = refl

-- client<tab>closed / backend<tab>ready
pub the_end : text_lines (closing_rows [] (phase.Closed cause.Lost) back.Ready) ≡ codes "client" ++ 9 ∷ codes "closed" ++ 10 ∷ codes "backend" ++ 9 ∷ codes "ready" ++ 10 ∷ []
the_end = refl

-- client<tab>closed / backend<tab>password
pub the_end_at_a_question : text_lines (closing_rows [] (phase.Closed cause.PasswordWanted) back.Password) ≡ codes "client" ++ 9 ∷ codes "closed" ++ 10 ∷ codes "backend" ++ 9 ∷ codes "password" ++ 10 ∷ []
the_end_at_a_question = refl

-- loaded<tab>1<tab>a<tab>b
pub loaded_chunks : text_line (loaded_row 1 (codes "a" ∷ codes "b" ∷ [])) ≡ codes "loaded" ++ 9 ∷ codes "1" ++ 9 ∷ codes "a" ++ 9 ∷ codes "b" ++ 10 ∷ []
loaded_chunks = ap (λ (digits : List ℕ). text_line (Some (codes "loaded") ∷ Some digits ∷ Some (codes "a") ∷ Some (codes "b") ∷ [])) (decimal_digit 1 (omega arith))

-- port<tab>7
pub the_port : text_line (port_row 7) ≡ codes "port" ++ 9 ∷ codes "7" ++ 10 ∷ []
the_port = ap (λ (digits : List ℕ). text_line (Some (codes "port") ∷ Some digits ∷ [])) (decimal_digit 7 (omega arith))

-- settled<tab>query<tab>Q / command<tab>A / status<tab>I / fault<tab>K1<tab>W4
pub a_turn : text_lines (decided_rows (record { request = Query (codes "Q"); outcome = record { parts = part.Command (codes "A") ∷ []; error = None; status = status.Idle; asides = [] }; loaded = [] } ∷ []) (applied.Backend (backend.Wire (BadBody 90))))
    ≡ codes "settled" ++ 9 ∷ codes "query" ++ 9 ∷ codes "Q" ++ 10 ∷ codes "command" ++ 9 ∷ codes "A" ++ 10 ∷ codes "status" ++ 9 ∷ codes "I" ++ 10 ∷ codes "fault" ++ 9 ∷ codes "K1" ++ 9 ∷ codes "W4" ++ 10 ∷ []
a_turn = refl
