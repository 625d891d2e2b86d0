mod Sections
mod Tokens
mod VmFiles
mod Programs
