use Rattle.pgpipe_texts.proofs.backend.BackMessageReadable.put.Goals as goal

pub returns-in-CommandComplete : goal.returns-in-CommandComplete
returns-in-CommandComplete c = rw c.in-CommandComplete.is c.put_named.ensures

pub returns-in-EmptyQuery : goal.returns-in-EmptyQuery
returns-in-EmptyQuery c = rw c.in-EmptyQuery.is c.put_name-in-EmptyQuery.ensures

pub returns-in-BindComplete : goal.returns-in-BindComplete
returns-in-BindComplete c = rw c.in-BindComplete.is c.put_name-in-BindComplete.ensures

pub returns-in-PortalSuspended : goal.returns-in-PortalSuspended
returns-in-PortalSuspended c = rw c.in-PortalSuspended.is c.put_name-in-PortalSuspended.ensures

pub returns-in-ErrorResponse : goal.returns-in-ErrorResponse
returns-in-ErrorResponse c = rw c.in-ErrorResponse.is c.put_after-in-ErrorResponse.ensures
