-- What a history of a client is, by what its code goes by.
use Rattle.pg_client.specs.View.{View}
use Rattle.pg_client.specs.Client.{History, IsHistoryOf, Keeps}
use Rattle.pg_client.specs.Keeping.{AgreesAs}
use Rattle.pg_client.specs.Private.Agreeing.{Agrees}

module _ {K : Type 0} (way : Keeps K) (law : AgreesAs way) where
  pub agreeing : (h : History way.Given) (v : View K) → IsHistoryOf way h v → Agrees way.tells h v
  agreeing h v r = (law h v).0 r.agrees

  pub seen : (h : History way.Given) (v : View K) → Agrees way.tells h v → IsHistoryOf way h v
  seen h v a = record { stream = a.stream; expected = a.happened.expected; agrees = (law h v).1 a }
