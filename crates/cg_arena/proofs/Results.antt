-- Facts of results, carried over.
use Rattle.std.specs.Prelude.{Result, Ok, Err, OnOk, OnErr, IfOk, Option, Some, None, IfNone}

pub on_ok : {T E : Type 0} (r : Result T E) (P Q : Type 0) → OnOk r P → (P → Q) → OnOk r Q
on_ok (Ok x) P Q h f = f h
on_ok (Err e) P Q h f = h

pub on_err : {T E : Type 0} (r : Result T E) (P Q : Type 0) → OnErr r P → (P → Q) → OnErr r Q
on_err (Ok x) P Q h f = h
on_err (Err e) P Q h f = f h

pub if_ok : {T E : Type 0} (r : Result T E) (P Q : T → Type 0) → IfOk r P → ((x : T) → P x → Q x) → IfOk r Q
if_ok (Ok x) P Q h f = f x h
if_ok (Err e) P Q h f = h

pub if_none : {T P Q : Type 0} (o : Option T) → IfNone o P → (P → Q) → IfNone o Q
if_none None h f = f h
if_none (Some x) h f = tt

pub always_ok : {T E : Type 0} (r : Result T E) (P : Type 0) → P → IfOk r (λ _. P)
always_ok (Ok x) P h = h
always_ok (Err e) P h = tt

pub always_on_err : {T E : Type 0} (r : Result T E) (P : Type 0) → P → OnErr r P
always_on_err (Ok x) P h = tt
always_on_err (Err e) P h = h
