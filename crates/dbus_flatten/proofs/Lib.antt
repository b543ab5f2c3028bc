mod FlatThere
mod FieldsThere
